-- What is told of each of several things, one after another.
use Rattle.std.specs.Prelude.{List, [], ◌∷◌}

-- what this function gives of each of them, in their order
abbrev pub of_each : {A B : Type 0} → (A → B) → List A → List B
of_each told [] = []
of_each told (thing ∷ things) = told thing ∷ of_each told things
