-- How the program ends when its arguments name no call, or can't be read.
use Rattle.std.specs.Prelude.{◌⊎◌, Bool, Option, ℕ, List}
use Rattle.std.specs.declared.io.ErrorKind.TheVariants as failure
use Rattle.clap.specs.declared.error.kind.ErrorKind.{ErrorKind}
use Rattle.clap.specs.declared.error.kind.ErrorKind.TheVariants.{OutOfMemory, DisplayHelp, DisplayVersion}
use Rattle.fx_base.specs.declared.fault.Place.TheVariants as places
use Rattle.clap.specs.Words.{IsAmong, Text, fault_of}
use Rattle.fx_command_line.specs.CommandLine.{once_app}
use Rattle.fx_checker.specs.Ending.{EndsWith}
use Rattle.fx_checker.specs.Arguments.{memory_line, EndsWithSomeText}

-- 0 if help or the version was requested, 4 if out of memory, otherwise 6
abbrev pub argument_error_status : ErrorKind → ℕ
argument_error_status OutOfMemory = 4
argument_error_status DisplayHelp = 0
argument_error_status DisplayVersion = 0
argument_error_status _ = 6

-- arguments that name no call: out of memory, or the program ends with the status of the arguments' error
abbrev pub EndsWithoutCall : {S : Type 0} → (S → Option (List ℕ)) → (S → Bool) → List Text → S → S → ℕ → Type 0
EndsWithoutCall taken failed arguments old new code =
    EndsWith taken failed memory_line 4 old new code
    ⊎ ((kind : ErrorKind) × IsAmong kind (fault_of once_app arguments)
    × EndsWithSomeText taken failed (argument_error_status kind) old new code)
