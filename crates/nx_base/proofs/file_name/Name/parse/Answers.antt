use Rattle.std.proofs.Common.{length}
use Rattle.nx_base.specs.Paths.{file_name_of}
use Rattle.nx_base.proofs.Refusals.{Gives-Err}
use Rattle.nx_base.proofs.file_name.Name.parse.Goals as goal

pub returns-in-Err : goal.returns-in-Err
returns-in-Err c =
    let read = rw c.as_bytes.ensures.value at c.in-Err.ensures.read in
    Gives-Err (file_name_of c.args.text.now) (length c.as_bytes.result.now) c.in-Err.refusal read c.in-Err.ensures.within
