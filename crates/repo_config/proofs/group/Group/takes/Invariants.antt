use Rattle.std.proofs.Common.{◌≡◌, not, filter, drop}
use Rattle.std.specs.List.{list_any}
use Rattle.nx_base.specs.Texts.{same_name}
use Rattle.repo_config.proofs.group.Group.takes.Given as goal

-- what is left has one as all had
abbrev pub invariant-loop-member : goal.invariant-loop-member
invariant-loop-member l =
    list_any (λ m. same_name m.store l.store) (filter (λ m. not m.read_only) (drop l.member-index l.self.members))
    ≡ list_any (λ m. same_name m.store l.store) (filter (λ m. not m.read_only) l.self.members)
