-- The first faulty entry of a list.
use Rattle.dvg_check.proofs.Common.{List, length, take, suc, arith, ap, subst, ◌≡◌, ◌<◌, ◌∷◌, ◌++◌, ℕ, AllByRecursion, Rom, Window, Entry, At, Rel, pos, Empty, GoodShape, Mode, drop, slice_index_or, all_append, ShapeFaultFound, ShapeFinding, FirstShapeFound}
use Rattle.std.proofs.Math.Seq.{take-suc, split_at}

-- what the code reads for an entry past the end
abbrev pub no_entry : Entry
no_entry = record { addr = 0; key = At 0; stop = Rel (pos 0) (pos 0); lit = Empty; depth = 0; words = 0; scale = At 0 }

-- the first fault, and what is known there
pub faulty_found : (mode : Mode) (w : Window) (rom : Rom) (list items other : List Entry) (i : ℕ) (d : Entry) (f : ShapeFinding)
    → items ≡ list → other ≡ list → i < length items → AllByRecursion (GoodShape mode w rom list) (take i list)
    → ShapeFaultFound mode w rom other (slice_index_or items i d) f
    → f.fault.addr ≡ (slice_index_or items i d).addr → f.fault.key ≡ (slice_index_or items i d).key → f.entry ≡ slice_index_or items i d
    → FirstShapeFound mode w rom list f
faulty_found mode w rom list items other i d f same also lt good found addr key entry =
    let there = rw also at found in
    let split = subst (λ (l : List Entry). l ≡ take i l ++ slice_index_or items i d ∷ drop (suc i) l) same (split_at items i d lt) in
    record { first = search (split, good, addr, key); entry = entry; known = rw entry there.known; stands = rw entry there.stands }

-- one good entry more
pub good_more : (mode : Mode) (w : Window) (rom : Rom) (list items other : List Entry) (i j : ℕ) (d : Entry) → items ≡ list
    → other ≡ list → j ≡ suc i → i < length items → AllByRecursion (GoodShape mode w rom list) (take i list)
    → GoodShape mode w rom other (slice_index_or items i d) → AllByRecursion (GoodShape mode w rom list) (take j list)
good_more mode w rom list items other i j d same also next lt all good =
    grind (arith, (take-suc list i d (omega (arith, ap length same, lt))), all_append, (slice_index_or items i d))
