-- The bytes of a name that were read so far.
use Rattle.dvg_cmd.proofs.Common.{◌≡◌, ◌≢◌, ◌≤◌, ℕ, cases_lt, common_steps, suc, List, [], ◌∷◌, ◌++◌, length, length-append, get_or, take, ap, subst, ◌∙◌, Option, inl, arith, Consumes-trans, Consumes, MOST_NAME_READ, Lacks, ReadsName}

pub record NameSoFar (end : ℕ) (old now : Option (List ℕ)) (len : ℕ) (name : List ℕ) : Type 0 where
  pub bytes : List ℕ
  pub lacks : Lacks end bytes
  pub kept : name ≡ take MOST_NAME_READ bytes
  pub read : Consumes old now bytes
  pub long : length bytes ≡ len

lacks_on : (end : ℕ) (bytes : List ℕ) (byte : ℕ) → Lacks end bytes → byte ≢ end → Lacks end (bytes ++ byte ∷ [])
lacks_on end [] byte h other = (other, tt)
lacks_on end (b ∷ bytes) byte h other = (h.0, lacks_on end bytes byte h.1 other)

take_kept : (n : ℕ) (xs ys : List ℕ) → take n (take n xs ++ ys) ≡ take n (xs ++ ys)
take_kept n xs ys = grind (arith, common_steps, (cases_lt n (length xs)))

-- one byte was read into a buffer of one byte
pub first_byte : (n : ℕ) (buf : List ℕ) → n ≤ length buf → length buf ≡ 1 → (n ≡ 0 → ⊥) → take n buf ≡ get_or buf 0 0 ∷ []
first_byte n buf most one some = grind (arith)

module _ (end : ℕ) (old mid new : Option (List ℕ)) (len : ℕ) (name : List ℕ) (h : NameSoFar end old mid len name) where
  pub one_byte : (byte next : ℕ) (more : List ℕ) → Consumes mid new (byte ∷ []) → byte ≢ end → next ≡ suc len
      → more ≡ take MOST_NAME_READ (name ++ byte ∷ []) → NameSoFar end old new next more
  one_byte byte next more read other is kept =
      record {
        bytes = h.bytes ++ byte ∷ [];
        lacks = lacks_on end h.bytes byte h.lacks other;
        kept = kept ∙ ap (λ (l : List ℕ). take MOST_NAME_READ (l ++ byte ∷ [])) h.kept ∙ take_kept MOST_NAME_READ h.bytes (byte ∷ []);
        read = Consumes-trans old mid new h.bytes (byte ∷ []) h.read read;
        long = omega (arith, length-append h.bytes (byte ∷ []), h.long, is);
      }

  -- the byte behind it was read
  pub ended : (byte : ℕ) → Consumes mid new (byte ∷ []) → byte ≡ end → ReadsName end old new name
  ended byte read is =
      record {
        bytes = h.bytes;
        lacks = h.lacks;
        kept = h.kept;
        read = inl (Consumes-trans old mid new h.bytes (end ∷ []) h.read (subst (λ b. Consumes mid new (b ∷ [])) is read));
      }
