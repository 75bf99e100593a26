-- The numbers and names of the statuses.
use Rattle.std.specs.Prelude.{ℕ, List, codes, Option, Some, None, unwrap_or}
use Rattle.nexrepo.specs.declared.status.Status.{Status}
use Rattle.nexrepo.specs.declared.status.Status.TheVariants as status

abbrev pub status_number : Status → ℕ
status_number status.Ok = 0
status_number status.Usage = 2
status_number (status.BadConfig key) = 3
status_number status.ReadFault = 4
status_number status.WriteFault = 5
status_number status.InputTooLong = 6
status_number status.DiskFault = 7
status_number status.KeeperFault = 8
status_number status.Cut = 9
status_number status.DownloadFault = 12
status_number status.NoMemory = 15

abbrev pub status_name : Status → List ℕ
status_name status.Ok = codes "Ok"
status_name status.Usage = codes "Usage"
status_name (status.BadConfig key) = codes "BadConfig"
status_name status.ReadFault = codes "ReadFault"
status_name status.WriteFault = codes "WriteFault"
status_name status.InputTooLong = codes "InputTooLong"
status_name status.DiskFault = codes "DiskFault"
status_name status.KeeperFault = codes "KeeperFault"
status_name status.Cut = codes "Cut"
status_name status.DownloadFault = codes "DownloadFault"
status_name status.NoMemory = codes "NoMemory"

-- the name of the file that sets a repository up
abbrev pub config_file : List ℕ
config_file = codes "config.properties"

-- what is printed behind the name: of a configuration that is refused the key, or else the file
abbrev pub status_detail : Status → Option (List ℕ)
status_detail status.Ok = None
status_detail status.Usage = None
status_detail (status.BadConfig key) = Some (unwrap_or key config_file)
status_detail status.ReadFault = None
status_detail status.WriteFault = None
status_detail status.InputTooLong = None
status_detail status.DiskFault = None
status_detail status.KeeperFault = None
status_detail status.Cut = None
status_detail status.DownloadFault = None
status_detail status.NoMemory = None
