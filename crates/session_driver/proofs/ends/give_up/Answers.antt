use Rattle.std.proofs.Common.{[], subst}
use Rattle.http_requests.specs.Requests.{Item}
use Rattle.http_front.specs.Answers.{silence}
use Rattle.session_driver.specs.Replying.{told}
use Rattle.session_driver.proofs.GivenUp.{put_answered, unread_cut, unread_whole}
use Rattle.session_driver.proofs.ends.give_up.Goals as goal

pub returns-then-expects_content-clause-inside : goal.returns-then-expects_content-clause-inside
returns-then-expects_content-clause-inside g c = λ fed past head start took phase none borrowed put uploads.
    let expects = c.expects_content.ensures fed past head took phase none borrowed in (
      silence,
      subst (λ (item : Item). g.R.Repository.Answers start c.cut.new.self item (told head silence)) (unread_cut head c.expects_content.result expects c.if-expects_content.true)
          (c.cut.ensures start head [] put uploads),
    )

pub returns-else-expects_content-clause-inside : goal.returns-else-expects_content-clause-inside
returns-else-expects_content-clause-inside g c = λ fed past head start took phase none borrowed put uploads.
    let expects = c.expects_content.ensures fed past head took phase none borrowed in
    let done = put_answered (g.R.Repository.Answers start c.commit-put.new.self _) head c.commit-put.result (c.commit-put.ensures start head [] put uploads) in (
      done.0,
      subst (λ (item : Item). g.R.Repository.Answers start c.commit-put.new.self item (told head done.0)) (unread_whole head c.expects_content.result expects c.if-expects_content.false) done.1,
    )
