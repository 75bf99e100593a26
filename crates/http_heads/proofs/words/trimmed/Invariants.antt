use Rattle.std.proofs.Common.{◌≡◌, ◌≤◌, reverse, take, length}
use Rattle.httparse.specs.Grammar.{skip_ows}
use Rattle.http_heads.proofs.words.trimmed.Given as goal

abbrev pub invariant-loop-end : goal.invariant-loop-end
invariant-loop-end l = record {
  within : l.end ≤ length l.prefix;
  same : skip_ows (reverse (take l.end l.prefix)) ≡ skip_ows (reverse l.prefix);
}

abbrev pub decreases-loop-end : goal.decreases-loop-end
decreases-loop-end l = l.end
