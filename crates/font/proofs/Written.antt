-- Texts of signed numbers that are read back from their 16 bits.
use Rattle.std.proofs.Common.{◌≡◌, ℤ, to_z, of_z, w16, SFits, ap, ◌∙◌}
use Rattle.std.proofs.lemmas.Int.{to_z-of_z}
use Rattle.std.specs.Fmt.{signed_decimal}

-- a number's text, read back
pub back : (x z : ℤ) → SFits w16 x → x ≡ z → signed_decimal (to_z w16 (of_z w16 x)) ≡ signed_decimal z
back x z fits e = ap signed_decimal (to_z-of_z w16 x fits ∙ e)
