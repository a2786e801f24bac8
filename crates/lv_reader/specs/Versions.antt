-- The version of a text: what a line with the word `version` says that stands before every other statement, else the first.
use Rattle.std.specs.Prelude.{Bool, true, false, nat_eq, if◌then◌else◌, Option, Some, None}
use Rattle.lv_reader.specs.declared.statement.Statement.{Statement}
use Rattle.lv_reader.specs.declared.statement.Statement.TheVariants.{VersionLine}
use Rattle.lv_reader.specs.declared.version.TheConstants.{NEWEST}
use Rattle.lv_reader.specs.declared.version.Version.{Version}
use Rattle.lv_reader.specs.declared.version.Version.TheVariants.{One, Two}

-- the version of a text that begins with this statement
abbrev pub version_of : Statement → Version
version_of (VersionLine n) = if nat_eq n NEWEST then Two else One
version_of s = One

-- the version by which a line is read: before the first statement it is the first
abbrev pub version_in : Option Version → Version
version_in None = One
version_in (Some version) = version

-- what is known of the version behind what a line says
abbrev pub known_behind : Option Version → Option Statement → Option Version
known_behind (Some version) said = Some version
known_behind None None = None
known_behind None (Some s) = Some (version_of s)

-- the statement says the version of the text
abbrev pub gives_version : Option Version → Statement → Bool
gives_version None (VersionLine n) = true
gives_version known s = false

-- what is said but for the version
abbrev pub stated : Option Version → Option Statement → Option Statement
stated known None = None
stated known (Some s) = if gives_version known s then None else Some s
