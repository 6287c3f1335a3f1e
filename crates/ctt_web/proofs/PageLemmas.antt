-- The files of a page, and what is said of their faults.
use Rattle.std.proofs.Common.{◌≡◌, inl, inr, refl, subst, ℕ, List}
use Rattle.ctt_files.specs.Texts.{Held}
use Rattle.ctt_files.specs.declared.fault.Fault.{Fault}
use Rattle.ctt_files.specs.declared.fault.Fault.TheVariants.{Machine}
use Rattle.ctt_files.specs.declared.fault.MachineFault.TheVariants.{NoMemory}
use Rattle.ctt_web.specs.Answers.{IsMet, IsRefused}
use Rattle.ctt_web.specs.Asked.{asked_in, bytes_in, held_in, held_of}
use Rattle.ctt_web.specs.Border.{HandsOut, IsRefusal, IsSaid}
use Rattle.ctt_web.specs.declared.asked.Asked.{Asked}
use Rattle.ctt_web.specs.declared.files.PageFiles.{PageFiles}

-- what holds of the files that were made holds of what the page passes
pub held_here : (P : Held → Type 0) (files : PageFiles) (bytes : List ℕ) (asked : Asked) → bytes_in files ≡ bytes → asked_in files ≡ asked → P (held_in files) → P (held_of bytes asked)
held_here P files bytes asked same_bytes same_asked is =
    subst (λ found. P (held_of found asked)) same_bytes (subst (λ found. P (held_of (bytes_in files) found)) same_asked is)

-- what is said of a fault says why the files are refused, also if memory ran out for it
pub said_here : (bytes : List ℕ) (asked : Asked) (fault : Fault) (status told : ℕ) (buffer : List ℕ) → IsRefused bytes asked fault → IsMet fault → IsSaid fault status told buffer → HandsOut (IsRefusal bytes asked status) told buffer
said_here bytes asked fault status told buffer cause met (inl out) = record {
  text = out.text;
  holds = record { fault = fault; cause = cause; met = met; said = out.holds };
  handed_out = out.handed_out;
}
said_here bytes asked fault status told buffer cause met (inr out) = record {
  text = out.text;
  holds = record { fault = Machine NoMemory; cause = inr (inr (inr refl)); met = tt; said = out.holds };
  handed_out = out.handed_out;
}
