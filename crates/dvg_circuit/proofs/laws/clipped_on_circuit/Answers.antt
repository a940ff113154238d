use Rattle.dvg_circuit.proofs.Common.{arith, List, ◌∷◌, AllByRecursion, AllZip, Stroke, Running, Halted, LitDraw, IsDrawnAs}
use Rattle.dvg_circuit.specs.Showing.{IsDrawClipped, StaysInZone}
use Rattle.dvg_circuit.proofs.Moves.{drawn_on_stroke}
use Rattle.dvg_circuit.proofs.Following.{all_reversed, circuit_follows}
use Rattle.dvg_circuit.proofs.Showing.{lit_on_screen, screen_is_shown}
use Rattle.dvg_circuit.proofs.laws.clipped_on_circuit.Goals as goal

clipped_draw : (stroke : Stroke) (l : LitDraw) → StaysInZone stroke → IsDrawnAs stroke l → IsDrawClipped stroke l
clipped_draw stroke l stays h n le =
    let on = drawn_on_stroke stroke l h n le in
    record { on = on; shown = lit_on_screen stroke _ on stays.0 stays.1; screen = screen_is_shown on.place _ on.same }

clipped_draws : (strokes : List Stroke) (lit : List LitDraw) → AllByRecursion StaysInZone strokes → AllZip IsDrawnAs strokes lit
    → AllZip IsDrawClipped strokes lit
clipped_draws (stroke ∷ strokes) (l ∷ lit) stay h = (clipped_draw stroke l stay.0 h.0, clipped_draws strokes lit stay.1 h.1)
clipped_draws strokes lit stay h = grind (arith)

pub returns : goal.returns
returns x m reads c place steps s mem board begun seen same = (
  λ reached stay. clipped_draws _ _ (all_reversed StaysInZone s.strokes stay)
      (circuit_follows m reads c place steps (Running s) mem board begun seen same reached).1.lit,
  λ reached stay. clipped_draws _ _ (all_reversed StaysInZone s.strokes stay)
      (circuit_follows m reads c place steps (Halted s) mem board begun seen same reached).1.lit,
)
