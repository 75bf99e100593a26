-- What the program says when it ends.
use Rattle.std.specs.Prelude.{ℕ, Bool, ◌==◌, if◌then◌else◌, List, [], ◌++◌, codes}
use Rattle.nx_base.specs.Given.{given}
use Rattle.nexrepo.specs.declared.status.Status.{Status}
use Rattle.nexrepo.specs.declared.status.Status.TheVariants as status
use Rattle.nexrepo.specs.Statuses.{status_number, status_name, status_detail}

-- The line of a status: its name, and of a configuration that is refused what is printed behind that. Ok has none.
abbrev pub status_line : Status → List ℕ
status_line s =
    if status_number s == 0 then []
    else codes "nexrepo: " ++ (status_name s ++ (given (status_detail s) [] (λ detail. codes " " ++ detail) ++ codes "\n"))

-- what a person is told besides: how the program is called, or where it's said what stands in the configuration
abbrev pub hint_of : Status → List ℕ
hint_of status.Ok = []
hint_of status.Usage = codes "usage: nexrepo FOLDER stdio\n"
hint_of (status.BadConfig key) = codes "docs/CONFIGURATION.md says what stands in config.properties\n"
hint_of status.ReadFault = []
hint_of status.WriteFault = []
hint_of status.InputTooLong = []
hint_of status.DiskFault = []
hint_of status.KeeperFault = []
hint_of status.Cut = []
hint_of status.DownloadFault = []
hint_of status.NoMemory = []

-- The lines of standard error: that of the status; and where standard error is a terminal, behind it what a person is told.
abbrev pub lines_of : Status → Bool → List ℕ
lines_of s at_terminal = status_line s ++ (if at_terminal then hint_of s else [])
