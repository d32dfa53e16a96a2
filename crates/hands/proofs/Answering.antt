-- What places with idle ones between them have for answers.
use Rattle.std.proofs.Common.{◌≡◌, ℕ, ◌<◌, List, [], ◌∷◌, ◌++◌, All, slice_index_or, length, ap, sym, subst, refl, filter_map}
use Rattle.std.specs.Prelude.{IfSome, Option, Some, None}
use Rattle.std.proofs.lemmas.List.Elements.{All-nil, All-cons, All-head, All-tail, All-same}
use Rattle.std.proofs.lemmas.Option.{same_Some}
use Rattle.std.proofs.lemmas.Option.{none-some}
use Rattle.std.specs.List.{AllZip}
use Rattle.std.proofs.lemmas.List.{append_assoc}
use Rattle.hands.specs.Idle.{with_idle, IsAnswer}

-- one more part has two more places
pub one_more_place : {P : Type 0} (ps : List P) (p : P) → with_idle (ps ++ p ∷ []) ≡ with_idle ps ++ Some p ∷ None ∷ []
unfolding with_idle
one_more_place [] p = refl
one_more_place (q ∷ ps) p = ap (λ l. Some q ∷ None ∷ l) (one_more_place ps p)

-- the answers that are given are those of the parts, in their order
pub answers_of_parts : {P X : Type 0} (Belongs : P → X → Type 0) (ps : List P) (answers : List (Option X)) → AllZip (IsAnswer Belongs) (with_idle ps) answers → AllZip Belongs ps (filter_map (λ o. o) answers)
unfolding with_idle IsAnswer
answers_of_parts Belongs [] [] zip = tt
answers_of_parts Belongs [] (o ∷ os) zip = absurd zip
answers_of_parts Belongs (p ∷ ps) [] zip = absurd zip
answers_of_parts Belongs (p ∷ ps) (o ∷ []) zip = absurd zip.1
answers_of_parts Belongs (p ∷ ps) (None ∷ o ∷ os) zip = absurd (none-some _ zip.0.1)
answers_of_parts Belongs (p ∷ ps) (Some x ∷ Some y ∷ os) zip = absurd (none-some _ (sym zip.1.0))
answers_of_parts Belongs (p ∷ ps) (Some x ∷ None ∷ os) zip = (subst (λ y. Belongs p y) (sym (same_Some _ _ zip.0.1)) zip.0.2, answers_of_parts Belongs ps os zip.1.1)

pub no_places : {P : Type 0} → with_idle {P = P} [] ≡ []
unfolding with_idle
no_places = refl

pub part_answer : {P X : Type 0} (Belongs : P → X → Type 0) (p : P) (x : X) → Belongs p x → IsAnswer Belongs (Some p) (Some x)
unfolding IsAnswer
part_answer Belongs p x belongs = (x, refl, belongs)

pub idle_answer : {P X : Type 0} (Belongs : P → X → Type 0) → IsAnswer Belongs None None
unfolding IsAnswer
idle_answer Belongs = refl

-- what each part is fit for, each place that has one is
pub accepted : {P : Type 0} (Fits : P → Type 0) (ps : List P) → All Fits ps → All (λ o. IfSome o Fits) (with_idle ps)
unfolding with_idle
accepted Fits [] all = All-nil (λ o. IfSome o Fits)
accepted Fits (p ∷ ps) all =
    let behind = All-cons (λ o. IfSome o Fits) None (with_idle ps) tt (accepted Fits ps (All-tail Fits p ps all)) in
    All-cons (λ o. IfSome o Fits) (Some p) (None ∷ with_idle ps) (All-head Fits p ps all) behind

-- so is what stands at a place of them
pub fits_at : {P : Type 0} (Fits : P → Type 0) (ps : List P) (places : List (Option P)) → places ≡ with_idle ps → All Fits ps → (k : ℕ) (d o : Option P) → k < length places → o ≡ slice_index_or places k d → IfSome o Fits
fits_at Fits ps places same all k d o low is = subst (λ x. IfSome x Fits) (sym is) (All-same (λ x. IfSome x Fits) places (with_idle ps) same (accepted Fits ps all) k d low)

-- a part and an idle place, put behind places one by one
pub two_more : {P : Type 0} (places : List (Option P)) (p : P) → (places ++ Some p ∷ []) ++ None ∷ [] ≡ places ++ Some p ∷ None ∷ []
two_more places p = append_assoc places (Some p ∷ []) (None ∷ [])
