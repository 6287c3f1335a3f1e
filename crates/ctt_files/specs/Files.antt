-- What can be seen of the files of the system.
use Rattle.std.specs.Prelude.{ℕ, List, Option, None, Bool, true, false}
use Rattle.ctt_files.specs.declared.files.FileInput.{FileInput}
use Rattle.ctt_files.specs.declared.files.FileInput.TheVariants.{File, Standard}
use Rattle.ctt_files.specs.declared.files.SystemFiles.{SystemFiles}

-- the runtime that accesses them
abbrev pub runtime_of : {R : Type 0} → SystemFiles R → R
runtime_of files = files.rt.now

-- the bytes that are left of an input, if they are known: those of standard input never are
abbrev pub input_left : {T : Type 0} → (T → Option (List ℕ)) → FileInput T → Option (List ℕ)
input_left left (Standard input) = None
input_left left (File file) = left file

-- the input is standard input
abbrev pub is_standard : {T : Type 0} → FileInput T → Bool
is_standard (Standard input) = true
is_standard (File file) = false
