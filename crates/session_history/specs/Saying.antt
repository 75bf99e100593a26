-- How an upload that failed is answered.
use Rattle.std.specs.Prelude.{codes}
use Rattle.repo_model.specs.declared.transfer.UploadErr.{UploadErr}
use Rattle.repo_model.specs.declared.transfer.UploadErr.TheVariants as uploads
use Rattle.http_heads.specs.Response.{Why, why}

-- one that failed before is answered as what a disk did to it
abbrev pub why_upload : UploadErr → Why
why_upload uploads.BodyTooLarge = why 413 (codes "BodyTooLarge")
why_upload uploads.DiskFault = why 500 (codes "DiskFault")
why_upload uploads.Dead = why 500 (codes "DiskFault")
why_upload uploads.NoMemory = why 507 (codes "NoMemory")
