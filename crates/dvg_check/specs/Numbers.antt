-- The numbers of the verdict's refusals.
use Rattle.std.specs.Prelude.{ℕ}
use Rattle.dvg_words.specs.Numbers.{image_number}
use Rattle.dvg_cert.specs.Numbers.{cert_number}
use Rattle.dvg_check.specs.FirstFault.{shape_number, frame_number}
use Rattle.dvg_check.specs.declared.verdict.Refusal.{Refusal}
use Rattle.dvg_check.specs.declared.verdict.Refusal.TheVariants as refusal

-- the number of the refusal of a ROM, a certificate and a frame (profile)
abbrev pub refusal_number : Refusal → ℕ
refusal_number (refusal.Image f) = image_number f
refusal_number refusal.BudgetRange = 49
refusal_number (refusal.Cert f) = cert_number f.why
refusal_number refusal.IndexMemory = 50
refusal_number (refusal.Shape f) = shape_number f.why
refusal_number (refusal.Frame f) = frame_number f.why
