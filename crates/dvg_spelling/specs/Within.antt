-- Milliseconds on the command line, and the clocks that they are. All of it is this project's own.
use Rattle.std.specs.Prelude.{◌≡◌, ◌≤◌, ◌+◌, ◌-◌, ◌*◌, ◌/◌, ◌⊎◌, ◌++◌, ◌∷◌, [], ℕ, List, decimal}
use Rattle.dvg_spelling.specs.declared.within.TheConstants.{MOST_MILLISECONDS, POINT}

-- the byte is a decimal digit
abbrev pub IsDigit : ℕ → Type 0
IsDigit byte = (48 ≤ byte) × (byte ≤ 57)

-- one, two or three digits behind a point are so many thousandths
abbrev pub IsFraction : List ℕ → ℕ → Type 0
IsFraction (a ∷ []) value = IsDigit a × (value ≡ 100 * (a - 48))
IsFraction (a ∷ b ∷ []) value = IsDigit a × IsDigit b × (value ≡ 100 * (a - 48) + 10 * (b - 48))
IsFraction (a ∷ b ∷ c ∷ []) value = IsDigit a × IsDigit b × IsDigit c × (value ≡ 100 * (a - 48) + 10 * (b - 48) + (c - 48))
IsFraction digits value = ⊥

-- the text is so many whole milliseconds
abbrev pub IsWhole : List ℕ → ℕ → Type 0
IsWhole text whole = (whole ≤ MOST_MILLISECONDS) × (text ≡ decimal whole)

-- the text is whole milliseconds, a point and digits
pub record HasPoint (text : List ℕ) (value : ℕ) : Type 0 where
  pub whole : ℕ
  pub digits : List ℕ
  pub fraction : ℕ
  pub few : whole ≤ MOST_MILLISECONDS
  pub text_is : text ≡ decimal whole ++ POINT ∷ digits
  pub fraction_is : IsFraction digits fraction
  pub value_is : value ≡ 1000 * whole + fraction

-- the text is so many thousandths of a millisecond
abbrev pub IsThousandths : List ℕ → ℕ → Type 0
IsThousandths text value = ((whole : ℕ) × IsWhole text whole × (value ≡ 1000 * whole)) ⊎ HasPoint text value

-- the text is a limit of so many clocks: of 0.001 to 10000 milliseconds, each of 1,512 clocks, rounded down
pub record IsLimit (text : List ℕ) (limit : ℕ) : Type 0 where
  pub value : ℕ
  pub spelled : IsThousandths text value
  pub some : 1 ≤ value
  pub few : value ≤ 1000 * MOST_MILLISECONDS
  pub limit_is : limit ≡ value * 1512 / 1000
