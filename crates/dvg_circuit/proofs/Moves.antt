-- A draw moves the generator's beam and the circuit's counters alike, and the counters pass places between its ends.
use Rattle.dvg_circuit.proofs.Common.{◌≡◌, ℕ, ◌≤◌, refl, ap, arith, ℤ, pos, negsuc, ◌+ℤ◌, ◌*ℤ◌, nat_abs, cases_lt, ints, DrawFields, Point, Board, shift, axis_move, displacement, effective_scale, Counters, counts, counters_after, signed, moved, twelve_bits, IsSamePlace, IsAmong, IsDrawnAs, DrawnOnStroke}
use Rattle.dvg_words.proofs.Machines.{board_moves}
use Rattle.dvg_circuit.proofs.Rounding.{rounded_half_up, more_pulses}
use Rattle.dvg_circuit.proofs.Places.{counter_is_place}

-- ---- how far

moved_to : (from size : ℤ) (local global : ℕ) → nat_abs size ≤ 1023
    → pos 1024 *ℤ from +ℤ axis_move Board size local global ≡ pos 1024 *ℤ (from +ℤ moved size (counts (effective_scale local global)))
moved_to from size local global small =
    let move : axis_move Board size local global ≡ pos 1024 *ℤ moved size (counts (effective_scale local global)) =
    grind (arith, board_moves, rounded_half_up, cases_lt, ints) in
    omega (arith, ints, move)

-- the sizes have ten bits
pub record AreSizes (d : DrawFields) : Type 0 where
  pub x : nat_abs d.dx ≤ 1023
  pub y : nat_abs d.dy ≤ 1023

-- the counters after some counts hold the twelve bits of where the places without bounds are then
pub counted : (x y : ℤ) (d : DrawFields) (n : ℕ) (c : Counters) → c ≡ record { x = twelve_bits x; y = twelve_bits y }
    → counters_after d c n ≡ record { x = twelve_bits (x +ℤ moved d.dx n); y = twelve_bits (y +ℤ moved d.dy n) }
counted x y d n c e = grind (arith, counter_is_place)

pub beam_moved : (d : DrawFields) (g : ℕ) (p : Point) (c : Counters) → AreSizes d → IsSamePlace p c
    → IsSamePlace (shift p (displacement Board d g)) (counters_after d c (counts (effective_scale d.lscale g)))
unfolding displacement
beam_moved d g p c small h =
    let n = counts (effective_scale d.lscale g) in
    record {
      x = h.x +ℤ moved d.dx n;
      y = h.y +ℤ moved d.dy n;
      place = grind (arith, moved_to);
      counters = counted h.x h.y d n c h.counters;
    }

-- ---- between the ends

pub among : (a b from size : ℤ) (some all : ℕ) → a ≡ pos 1024 *ℤ from → b ≡ pos 1024 *ℤ (from +ℤ signed size all) → some ≤ all
    → IsAmong a b (pos 1024 *ℤ (from +ℤ signed size some))
among a b from (pos m) some all e f le low high g k = omega (arith, ints)
among a b from (negsuc m) some all e f le low high g k = omega (arith, ints)

-- the stroke of a draw
pub drawn_as : (d : DrawFields) (g : ℕ) (p : Point) (c : Counters) (small : AreSizes d) (h : IsSamePlace p c)
    → IsDrawnAs (record { from = p; to = shift p (displacement Board d g) })
    (record { draw = d; from = c; counts = counts (effective_scale d.lscale g) })
unfolding beam_moved
drawn_as d g p c small h = record { from = h; to = (beam_moved d g p c small h).place }

unfoldable pub drawn_on_stroke : DrawnOnStroke
drawn_on_stroke stroke l h n le =
    let x = h.from.x +ℤ moved l.draw.dx n in
    let y = h.from.y +ℤ moved l.draw.dy n in
    record {
      place = record { x = pos 1024 *ℤ x; y = pos 1024 *ℤ y };
      same = record { x = x; y = y; place = refl; counters = counted h.from.x h.from.y l.draw n l.from h.from.counters };
      across = among _ _ _ l.draw.dx _ _ (ap (λ (p : Point). p.x) h.from.place) (ap (λ (p : Point). p.x) h.to)
          (more_pulses (nat_abs l.draw.dx) n l.counts le);
      up = among _ _ _ l.draw.dy _ _ (ap (λ (p : Point). p.y) h.from.place) (ap (λ (p : Point). p.y) h.to)
          (more_pulses (nat_abs l.draw.dy) n l.counts le);
    }
