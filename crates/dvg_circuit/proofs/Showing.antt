-- What is shown of a stroke.
use Rattle.dvg_circuit.proofs.Common.{◌≡◌, ap, arith, ℤ, pos, negsuc, ◌+ℤ◌, ◌*ℤ◌, ints, Window, IsWindowOrZone, clipped, InWindow, Point, Stroke, bit, IsShown, Counters, counters_after, LitDraw, IsBetween, moved, twelve_bits, IsDrawnAs}
use Rattle.dvg_circuit.specs.Showing.{IsDrawInWindow, ShownInWindow, LitInWindow, LitOnScreen, ScreenIsShown}
use Rattle.dvg_circuit.proofs.Moves.{drawn_on_stroke}

in_places : (low high x at : ℤ) → at ≡ pos 1024 *ℤ x → IsBetween (pos 1024 *ℤ low) (pos 1024 *ℤ high) at → IsBetween low high x
in_places low high x at e h = (omega (arith, ints, e, h.0), omega (arith, ints, e, h.1))

pub lit_in_window : LitInWindow
lit_in_window w stroke c on from to = (
  in_places _ _ _ _ (ap (λ (p : Point). p.x) on.same.place) (on.across _ _ (from.left, from.right) (to.left, to.right)),
  in_places _ _ _ _ (ap (λ (p : Point). p.y) on.same.place) (on.up _ _ (from.bottom, from.top) (to.bottom, to.top)),
)

-- ---- places of a window

-- a coordinate of the zone whose bit 10 is clear is one of the screen, and the counter holds it
there : (x : ℤ) → IsBetween (negsuc 1023) (pos 2047) x → bit 10 (twelve_bits x) ≡ 0 → IsBetween (pos 0) (pos 1023) x
    × (x ≡ pos (twelve_bits x))
there x h clear = grind (arith, ints)

pub shown_in_window : ShownInWindow
shown_in_window = grind (arith, there, ints)

-- what the clauses say of a lit stroke of the window
pub drawn_in_window : (w : Window) (stroke : Stroke) (l : LitDraw) → IsWindowOrZone w → InWindow w stroke.from → InWindow w stroke.to
    → IsDrawnAs stroke l → IsDrawInWindow w l
unfolding drawn_on_stroke
drawn_in_window w stroke l is from to h =
    record {
      x = h.from.x;
      y = h.from.y;
      each = λ n le.
          let on = drawn_on_stroke stroke l h n le in
          grind (
            arith,
            (shown_in_window.place w (h.from.x +ℤ moved l.draw.dx n) (h.from.y +ℤ moved l.draw.dy n) is
                (lit_in_window w stroke (counters_after l.draw l.from n) on from to)),
            on,
          );
    }

-- ---- strokes of the zone

pub lit_on_screen : LitOnScreen
lit_on_screen stroke c on from to shown = grind (arith, (lit_in_window clipped stroke c on from to), there, (pos 1024), pos)

pub screen_is_shown : ScreenIsShown
screen_is_shown p c same inside = grind (arith, ints)

-- where bit 10 is set nothing is shown
pub blanked : (c : Counters) → bit 10 c.x ≡ 1 → IsShown c → ⊥
blanked c set is = absurd (omega (arith, set, is.x))
