use Rattle.dvg_text.proofs.Common.{◌≡◌, ◌≤◌, take, AllDigits, digits_value}
use Rattle.dvg_text.proofs.numerals.leading_number_by_digits.Given as goal

abbrev pub invariant-loop-i : goal.invariant-loop-i
invariant-loop-i l =
    record { few : l.i ≤ 13; digits : AllDigits 10 (take l.i l.bytes); value : l.number ≡ digits_value 10 (take l.i l.bytes) }
