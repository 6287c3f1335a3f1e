-- Calls of a writer whose reader may leave.
use Rattle.std.specs.Prelude.{Bool, true, false, Result, Ok, Err, if◌then◌else◌}
use Rattle.std.specs.IoError.{error_kind}
use Rattle.std.specs.declared.io.Error.{Error}
use Rattle.std.specs.declared.io.ErrorKind.{ErrorKind}
use Rattle.std.specs.declared.io.ErrorKind.TheVariants.{BrokenPipe}

-- nobody reads any more
abbrev pub is_broken_pipe : ErrorKind → Bool
is_broken_pipe BrokenPipe = true
is_broken_pipe _ = false

-- what is told of a call that has come out so: it has done all if it failed since nobody reads any
-- more, and every other failure stays one
abbrev pub unless_left : {T : Type 0} → Result T Error → T → Result T Error
unless_left (Ok done) all = Ok done
unless_left (Err error) all = if is_broken_pipe (error_kind error) then Ok all else Err error
