use Rattle.dvg_text.proofs.Common.{refl, ◌≡◌, sym, subst, ◌∙◌, IsMap, is_asteroids, arith}
use Rattle.dvg_text.proofs.FieldValues.{none_as}
use Rattle.dvg_text.proofs.FirstLines.{map_of, rom_reads, other_said}
use Rattle.dvg_text.proofs.line.elsewhere_of.Goals as goal
use Rattle.dvg_text.proofs.Common.{rules}

pub returns-in_err-map-clause-none : goal.returns-in_err-map-clause-none
returns-in_err-map-clause-none c = none_as c.from_residual-in_err-map.result refl (λ e map is same.
    let here : map ≡ map_of (c.in_ok-first.first, c.in_ok-first.last) =
    other_said c.args.line.now (c.in_ok-first.first, c.in_ok-first.last) (sym c.in_ok-first.was ∙ c.whole_rom.ensures) map is same in
    c.in_err-map.ensures.none (subst IsMap here is.0))

pub returns-then-is_asteroids-clause-none : goal.returns-then-is_asteroids-clause-none
returns-then-is_asteroids-clause-none c = grind (arith, map_of, other_said, is_asteroids)

pub returns-else-is_asteroids-clause-found : goal.returns-else-is_asteroids-clause-found
returns-else-is_asteroids-clause-found c = grind (arith, (rom_reads c.args.line.now))

pub returns-then-is_asteroids-clause-found : goal.returns-then-is_asteroids-clause-found
returns-then-is_asteroids-clause-found c = search rules
