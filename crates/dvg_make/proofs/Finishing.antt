-- The list that is made, in the order of a certificate.
use Rattle.dvg_make.proofs.Common.{◌≡◌, ℕ, List, [], length, Some, sym, ◌∙◌, arith, inl, inr, ⊎_elim, Contains, Rom, rom_word, IsEntry, IsRising, IsCertificate, entry_at, Entry, Key, shape_context, callee_at, scale_before, HasEntry, Needs, IsAskedFor, FramesMade, keyed_context, Extends, IsCalled, AllFramed, listed_at, IsMap, Made, all_listed}
use Rattle.dvg_make.proofs.Onward.{fine_taken}
use Rattle.dvg_make.proofs.Matching.{exact_named, found_listed}
use Rattle.dvg_make.proofs.Merging.{scale_grows, made_grows}
use Rattle.dvg_make.proofs.Framing.{calls_grow, calls_shrink}

module _ (rom : Rom) (roots : List (ℕ × Key)) (frames : List (List ℕ)) (done list : List Entry) (h : AllFramed rom roots frames done)
    (rises : IsRising list) (same : (addr : ℕ) (key : Key) → entry_at list addr key ≡ entry_at done addr key)
    (long : length list ≡ length done) where
  ext : Extends done list
  ext addr key e q = same addr key ∙ q

  was_done : (e : Entry) → Contains list e → entry_at done e.addr e.key ≡ Some e
  was_done e c = sym (same e.addr e.key) ∙ found_listed list e rises c

  done_listed : (e : Entry) → Contains list e → Contains done e
  done_listed e c = (listed_at done e.addr e.key e (was_done e c)).listed

  pub is_certificate : IsMap rom.map → IsCertificate rom.map list
  is_certificate is =
      record {
        map_is = is;
        each = all_listed (IsEntry rom.map.rom_first rom.map.rom_last) list
            (λ e c. h.collected.is_done.entries e (done_listed e c));
        rising = rises;
        few = omega (arith, h.collected.is_done.room, long);
      }

  needs_it : (f : Entry) → Contains list f → IsCalled rom done [] f.addr f.key → (e : Entry) × Contains list e × Needs rom list e f
  needs_it f listed_f c =
      grind (
        arith,
        listed_at,
        ext,
        scale_before,
        shape_context,
        keyed_context,
        scale_grows,
        fine_taken,
        callee_at,
        exact_named,
        found_listed,
        rom_word,
      )

  asked_has : (addr : ℕ) (key : Key) → IsAskedFor rom.machine roots frames list addr key → HasEntry list addr key
  asked_has addr key a =
      ⊎_elim (λ r. let x = h.rooted addr key r in (x.0, ext addr key x.0 x.1))
      (λ c. let x = h.has_calls c.0 c.1 addr key (calls_shrink rom.machine c.0 done list ext (h.has_calls c.0 c.1) addr key c.2) in
      (x.0, ext addr key x.0 x.1)) a

  asked_grows : (addr : ℕ) (key : Key) → IsAskedFor rom.machine roots frames done addr key
      → IsAskedFor rom.machine roots frames list addr key
  asked_grows addr key h2 = grind (arith, calls_grow, ext)

  pub is_made : IsMap rom.map → FramesMade rom roots frames list
  is_made is =
      record {
        certificate = is_certificate is;
        each = λ e c. made_grows rom done list e ext (h.collected.is_done.made e (done_listed e c));
        rooted = asked_has;
        needed = λ f c. ⊎_elim (λ r. inl (asked_grows f.addr f.key (h.asked_for f.addr f.key r))) (λ n. inr (needs_it f c n))
            (h.collected.needed f.addr f.key (f, was_done f c));
      }

-- where no frame is asked for, the list is that of the roots
pub made_roots : (rom : Rom) (roots : List (ℕ × Key)) (list : List Entry) → FramesMade rom roots [] list → Made rom roots list
made_roots rom roots list m =
    record {
      certificate = m.certificate;
      each = m.each;
      rooted = λ addr key r. m.rooted addr key (inl r);
      needed =
          λ f c. ⊎_elim (λ a. inl (⊎_elim (λ r. r) (λ b. absurd (omega (arith, b.1.1))) a)) (λ n. inr n) (m.needed f c);
    }

pub roots_made : (rom : Rom) (roots : List (ℕ × Key)) (list : List Entry) → Made rom roots list → FramesMade rom roots [] list
roots_made rom roots list m =
    record {
      certificate = m.certificate;
      each = m.each;
      rooted =
          λ addr key a. ⊎_elim (λ r. m.rooted addr key r) (λ b. absurd (omega (arith, b.1.1))) a;
      needed =
          λ f c. ⊎_elim (λ r. inl (inl r)) (λ n. inr n) (m.needed f c);
    }
