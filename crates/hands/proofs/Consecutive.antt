-- What parts of a list give, one behind another.
use Rattle.std.proofs.Common.{◌≡◌, ℕ, ◌≤◌, List, [], ◌∷◌, ◌++◌, All, flat_map, subst, sym, refl, ◌∙◌}
use Rattle.std.proofs.Math.Nat.{le_refl, le_trans}
use Rattle.std.proofs.lemmas.List.Elements.{All-nil, All-cons}
use Rattle.std.specs.List.{AllZip}
use Rattle.hands.specs.declared.part.Part.{Part}
use Rattle.hands.specs.Consecutive.{ArePartsOf}

-- there are no parts between a place and itself
pub no_parts : (at : ℕ) → ArePartsOf at at []
unfolding ArePartsOf
no_parts at = refl

-- parts end where the first begins, or behind it
pub ascend : (from past : ℕ) (ps : List Part) → ArePartsOf from past ps → from ≤ past
unfolding ArePartsOf
ascend from past [] h = subst (λ n. from ≤ n) h (le_refl from)
ascend from past (p ∷ ps) h = le_trans h.1 (ascend p.past past ps h.2)

-- one more part behind them
pub one_more : (from middle : ℕ) (p : Part) (ps : List Part) → ArePartsOf from middle ps → p.from ≡ middle → middle ≤ p.past → ArePartsOf from p.past (ps ++ p ∷ [])
unfolding ArePartsOf
one_more from middle p [] h begins order = (begins ∙ sym h, subst (λ n. n ≤ p.past) (sym h) order, refl)
one_more from middle p (q ∷ ps) h begins order = (h.0, h.1, one_more q.past middle p ps h.2 begins order)

-- what is true of each two places in order that lie inside is true of each part
pub each_part : (P : Part → Type 0) (from past : ℕ) (ps : List Part) → ArePartsOf from past ps → ((p : Part) → from ≤ p.from → p.from ≤ p.past → p.past ≤ past → P p) → All P ps
unfolding ArePartsOf
each_part P from past [] h f = All-nil P
each_part P from past (p ∷ ps) h f =
    let begins = subst (λ n. from ≤ n) (sym h.0) (le_refl from) in
    let order = subst (λ n. n ≤ p.past) (sym h.0) h.1 in
    All-cons P p ps (f p begins order (ascend p.past past ps h.2)) (each_part P p.past past ps h.2 (λ q low order high. f q (le_trans h.1 low) order high))

-- what holds of nothing between a place and itself, and of two lists one behind another, holds of all parts one behind another
pub behind_one_another : {X V : Type 0} (items : V → List X) (Holds : ℕ → ℕ → List X → Type 0) → ((a : ℕ) → Holds a a []) → ((a b c : ℕ) (xs ys : List X) → a ≤ b → b ≤ c → Holds a b xs → Holds b c ys → Holds a c (xs ++ ys)) → (from past : ℕ) (ps : List Part) (vs : List V) → ArePartsOf from past ps → AllZip (λ (p : Part) v. Holds p.from p.past (items v)) ps vs → Holds from past (flat_map items vs)
unfolding ArePartsOf
behind_one_another items Holds none both from past [] [] parts zip = subst (λ n. Holds from n []) parts (none from)
behind_one_another items Holds none both from past [] (v ∷ vs) parts zip = absurd zip
behind_one_another items Holds none both from past (p ∷ ps) [] parts zip = absurd zip
behind_one_another items Holds none both from past (p ∷ ps) (v ∷ vs) parts zip =
    both from p.past past (items v) (flat_map items vs) parts.1 (ascend p.past past ps parts.2) (subst (λ n. Holds n p.past (items v)) parts.0 zip.0) (behind_one_another items Holds none both p.past past ps vs parts.2 zip.1)

-- parts up to a place that is the same number
pub whole : (from middle past : ℕ) (ps : List Part) → middle ≡ past → ArePartsOf from middle ps → ArePartsOf from past ps
whole from middle past ps same parts = subst (λ n. ArePartsOf from n ps) same parts
