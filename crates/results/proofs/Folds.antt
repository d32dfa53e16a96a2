-- What parts of a list give, put together one after another.
use Rattle.std.proofs.Common.{◌≡◌, ℕ, ◌≤◌, List, [], ◌∷◌, All, arith, length, subst, sym}
use Rattle.std.specs.List.{AllZip}
use Rattle.hands.specs.declared.part.Part.{Part}
use Rattle.hands.specs.Consecutive.{ArePartsOf}
use Rattle.hands.proofs.Consecutive.{ascend, each_part}

-- what is known of all up to a place, and what the parts from there on gave
pub record IsFolded {V : Type 0} (Known : ℕ → Type 0) (Gave : Part → V → Type 0) (past : ℕ) (rest : List V) : Type 0 where
  pub at : ℕ
  pub known : Known at
  pub parts : List Part
  pub are_parts : ArePartsOf at past parts
  pub gave : AllZip Gave parts rest

module _ {V : Type 0} (Known : ℕ → Type 0) (Gave : Part → V → Type 0) (past : ℕ) where
  -- nothing is left
  pub folded : (rest : List V) → length rest ≡ 0 → IsFolded Known Gave past rest → Known past
  unfolding ArePartsOf
  folded [] none h = end h.parts h.are_parts h.gave
    where
      end : (ps : List Part) → ArePartsOf h.at past ps → AllZip Gave ps [] → Known past
      end [] parts gave = subst Known parts h.known
      end (p ∷ ps) parts gave = absurd gave
  folded (v ∷ rest) none h = absurd (omega (arith, none))

  -- one part more
  pub one_on : (Known' : ℕ → Type 0) (v : V) (rest : List V) → ((at : ℕ) (p : Part) → p.from ≡ at → at ≤ p.past → p.past ≤ past → Known at → Gave p v → Known' p.past) → IsFolded Known Gave past (v ∷ rest) → IsFolded Known' Gave past rest
  unfolding ArePartsOf
  one_on Known' v rest on h = next h.parts h.are_parts h.gave
    where
      next : (ps : List Part) → ArePartsOf h.at past ps → AllZip Gave ps (v ∷ rest) → IsFolded Known' Gave past rest
      next [] parts gave = absurd gave
      next (p ∷ ps) parts gave = record {
        at = p.past;
        known = on h.at p parts.0 parts.1 (ascend p.past past ps parts.2) h.known gave.0;
        parts = ps;
        are_parts = parts.2;
        gave = gave.1;
      }

-- the next part, and what it gave
pub next_part : {V : Type 0} (Known : ℕ → Type 0) (Gave : Part → V → Type 0) (past : ℕ) (v : V) (rest : List V) → IsFolded Known Gave past (v ∷ rest) → (p : Part) × Known p.from × Gave p v
unfolding ArePartsOf
next_part {V} Known Gave past v rest h = next h.parts h.are_parts h.gave
  where
    next : (ps : List Part) → ArePartsOf h.at past ps → AllZip Gave ps (v ∷ rest) → (p : Part) × Known p.from × Gave p v
    next [] parts gave = absurd gave
    next (p ∷ ps) parts gave = (p, subst Known (sym parts.0) h.known, gave.0)

-- parts follow one another inside
pub inside : (past : ℕ) (ps : List Part) → ArePartsOf 0 past ps → All (λ (p : Part). (p.from ≤ p.past) × (p.past ≤ past)) ps
inside past ps parts = each_part (λ (p : Part). (p.from ≤ p.past) × (p.past ≤ past)) 0 past ps parts (λ p low order high. (order, high))
