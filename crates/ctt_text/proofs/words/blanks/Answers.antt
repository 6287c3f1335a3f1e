use Rattle.std.proofs.Common.{refl, arith}
use Rattle.ctt_problem.specs.Named.{is_blank}
use Rattle.ctt_text.proofs.LaneLemmas.{blank_lane, lanes_are, mask_is}
use Rattle.ctt_text.proofs.words.blanks.Goals as goal

pub returns : goal.returns
unfolding is_blank
returns g c =
    let bytes = c.args.bytes in
    mask_is blank_lane is_blank bytes _ (omega (arith, c.fits-bytes.0, c.requires)) c.fits-bytes.1 (lanes_are bytes g.row.N c.fits-bytes.0) refl
