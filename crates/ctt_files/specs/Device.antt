-- What can be seen of a reader or a writer of std.
use Rattle.std.specs.Prelude.{ℕ, Bool}
use Rattle.ctt_files.specs.declared.device.Device.{Device}

-- the reader or the writer itself
abbrev pub inner_of : {T : Type 0} → Device T → T
inner_of device = device.inner

-- whether a call has failed, or took none of the bytes that it was given
abbrev pub is_marked : {T : Type 0} → Device T → Bool
is_marked device = device.failed

-- how many reads were tried
abbrev pub pulls_of : {T : Type 0} → Device T → ℕ
pulls_of device = device.pulls.number

-- how many reads were tried after one had failed
abbrev pub retries_of : {T : Type 0} → Device T → ℕ
retries_of device = device.retries.number

-- how many writes have taken bytes since the last flush that succeeded
abbrev pub unflushed_of : {T : Type 0} → Device T → ℕ
unflushed_of device = device.unflushed.number
