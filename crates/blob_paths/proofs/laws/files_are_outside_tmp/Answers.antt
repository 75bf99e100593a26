use Rattle.std.proofs.Common.{[], subst, append-nil}
use Rattle.blob_paths.specs.Places.{place_of, ending_of, IsOutsideTmp}
use Rattle.blob_paths.proofs.Apart.{outside}
use Rattle.blob_paths.proofs.laws.files_are_outside_tmp.Goals as goal

pub returns-clause-files : goal.returns-clause-files
returns-clause-files c = λ blob ending is_store. outside blob.store blob.id (ending_of ending) is_store

pub returns-clause-places : goal.returns-clause-places
returns-clause-places c = λ blob is_store. subst IsOutsideTmp (append-nil (place_of blob)) (outside blob.store blob.id [] is_store)
