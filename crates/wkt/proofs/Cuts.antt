-- The features of a text: cut out of its rings, and one list.
use Rattle.std.proofs.Common.{◌≡◌, ◌∙◌, ℕ, zero, suc, ◌+◌, ◌-◌, ◌<◌, ◌≤◌, List, [], ◌∷◌, ◌++◌, length, get_or, drop, map, take, append_assoc, length-append, Some, refl, sym, ap, subst, arith}
use Rattle.std.specs.Prelude.{slice_get, slice_range}
use Rattle.std.proofs.Math.Numerals.{add-one}
use Rattle.std.proofs.Math.Seq.{drop-append_seam, take-append_seam}
use Rattle.std.proofs.lemmas.List.{append-nil, length-map, map-append}
use Rattle.std.proofs.lemmas.List.Concat.{flat_map-append}
use Rattle.std.proofs.lemmas.Option.{same_Some}
use Rattle.geom.specs.declared.point.Pt.{Pt}
use Rattle.wkt.specs.LayerText.{Ring, IsLayer, joined}
use Rattle.wkt.specs.Refusals.{place_of, plain, IsAccepted, StandsFor}
use Rattle.wkt.specs.Features.{IsFeatureAt, HasFeatures, StandsForFeatures, all_rings, starts_from, features_of, AreCut}
use Rattle.wkt.specs.Machine.{State}
use Rattle.wkt.proofs.Complete.{of_layer, taken_features}

-- ---- rings that are cut where features begin

first_drop : (before own rest : List (List Pt)) → drop (length before) (before ++ (own ++ rest)) ≡ own ++ rest
first_drop before own rest = drop-append_seam before (own ++ rest)

slice_first : (before own rest : List (List Pt)) → slice_range (before ++ (own ++ rest)) (length before) (length before + length own) ≡ own
slice_first before own rest =
    let n : length before + length own - length before ≡ length own = omega arith in
    ap (λ (k : ℕ). take k (drop (length before) (before ++ (own ++ rest)))) n ∙ ap (take (length own)) (first_drop before own rest) ∙ take-append_seam own rest

cons_both : (x y : List (List Pt)) (xs ys : List (List (List Pt))) → x ≡ y → xs ≡ ys → x ∷ xs ≡ y ∷ ys
cons_both x y xs ys e f = ap (λ v. v ∷ xs) e ∙ ap (λ vs. y ∷ vs) f

cut_behind : (before : List (List Pt)) (fs : List (List (List Pt))) → features_of (before ++ all_rings fs) (starts_from (length before) fs) ≡ fs
cut_behind before [] = refl
cut_behind before (f ∷ []) = ap (λ x. x ∷ []) (first_drop before f [] ∙ append-nil f)
cut_behind before (f ∷ (g ∷ fs)) =
    let rest = all_rings (g ∷ fs) in
    let more : features_of (before ++ (f ++ rest)) (starts_from (length before + length f) (g ∷ fs)) ≡ g ∷ fs =
    ap (λ (x : List (List Pt)). features_of x (starts_from (length before + length f) (g ∷ fs))) (sym (append_assoc before f rest))
    ∙ ap (λ (n : ℕ). features_of ((before ++ f) ++ rest) (starts_from n (g ∷ fs))) (sym (length-append before f))
    ∙ cut_behind (before ++ f) (g ∷ fs) in
    cons_both (slice_range (before ++ (f ++ rest)) (length before) (length before + length f)) f (features_of (before ++ (f ++ rest)) (starts_from (length before + length f) (g ∷ fs))) (g ∷ fs) (slice_first before f rest) more

-- features are told by their rings and their starts
pub cut_is : (fs : List (List (List Pt))) (rings : List (List Pt)) (starts : List ℕ) → AreCut fs rings starts → features_of rings starts ≡ fs
cut_is fs rings starts h = ap (λ (x : List (List Pt)). features_of x starts) (sym h.all) ∙ ap (features_of (all_rings fs)) (sym h.firsts) ∙ cut_behind [] fs

pub are_cut : (fs : List (List (List Pt))) (rings : List (List Pt)) (starts : List ℕ) → AreCut fs rings starts → AreCut (features_of rings starts) rings starts
are_cut fs rings starts h = subst (λ x. AreCut x rings starts) (sym (cut_is fs rings starts h)) h

-- ---- features of two lists

starts_append : (k : ℕ) (fs gs : List (List (List Pt))) → starts_from k (fs ++ gs) ≡ starts_from k fs ++ starts_from (k + length (all_rings fs)) gs
starts_append k [] gs = let e : k ≡ k + 0 = omega arith in ap (λ (n : ℕ). starts_from n gs) e
starts_append k (f ∷ fs) gs =
    let e : k + length f + length (all_rings fs) ≡ k + length (f ++ all_rings fs) = omega (arith, length-append f (all_rings fs)) in
    ap (λ x. k ∷ x) (starts_append (k + length f) fs gs ∙ ap (λ (n : ℕ). starts_from (k + length f) fs ++ starts_from n gs) e)

starts_shifted : (k d : ℕ) (fs : List (List (List Pt))) → starts_from (k + d) fs ≡ map (λ s. s + d) (starts_from k fs)
starts_shifted k d [] = refl
starts_shifted k d (f ∷ fs) =
    let e : k + d + length f ≡ k + length f + d = omega arith in
    ap (λ x. (k + d) ∷ x) (ap (λ (n : ℕ). starts_from n fs) e ∙ starts_shifted (k + length f) d fs)

-- the starts of more features are shifted by the rings before them
pub cut_more : (fs gs : List (List (List Pt))) (rings more : List (List Pt)) (starts own : List ℕ) → AreCut fs rings starts → AreCut gs more own
    → AreCut (fs ++ gs) (rings ++ more) (starts ++ map (λ s. s + length rings) own)
cut_more fs gs rings more starts own h k = record {
  all = flat_map-append (λ (f : List (List Pt)). f) fs gs ∙ ap (λ x. x ++ all_rings gs) h.all ∙ ap (λ x. rings ++ x) k.all;
  firsts =
      starts_append 0 fs gs
      ∙ ap (λ x. x ++ starts_from (0 + length (all_rings fs)) gs) h.firsts
      ∙ ap (λ (n : ℕ). starts ++ starts_from n gs) (ap (λ (x : List (List Pt)). 0 + length x) h.all)
      ∙ ap (λ x. starts ++ x) (starts_shifted 0 (length rings) gs ∙ ap (map (λ s. s + length rings)) k.firsts);
}

-- ---- the features of a text

-- a layer has features
pub has_features : (text : List ℕ) (rings : List Ring) → IsLayer text rings → (fs : List (List Ring)) × HasFeatures text fs × (rings ≡ joined fs)
unfolding IsLayer HasFeatures
has_features text rings h = of_layer (length text) text rings h

plain_append : (rs ss : List Ring) → plain (rs ++ ss) ≡ plain rs ++ plain ss
plain_append rs ss = map-append (λ (r : Ring). take (length r.points - 1) (map place_of r.points)) rs ss

pub plain_joined : (fs : List (List Ring)) → plain (joined fs) ≡ all_rings (map plain fs)
plain_joined [] = refl
plain_joined (f ∷ fs) = plain_append f (joined fs) ∙ ap (λ x. plain f ++ x) (plain_joined fs)

-- the rings of its features are those that a text stands for
pub stands_joined : (text : List ℕ) (features : List (List (List Pt))) → StandsForFeatures text features → StandsFor text (all_rings features)
stands_joined text features (written, h, accepted, e) = (joined written, accepted, plain_joined written ∙ ap all_rings e)

pub stands_apart : (text : List ℕ) (rings : List (List Pt)) → StandsFor text rings → (features : List (List (List Pt))) × StandsForFeatures text features × (all_rings features ≡ rings)
stands_apart text rings (written, accepted, e) =
    let f = has_features text written accepted.layer in
    (map plain f.0, (f.0, f.1, subst (λ x. IsAccepted text x) f.2 accepted, refl), sym (plain_joined f.0) ∙ ap plain (sym f.2) ∙ e)

-- the starts of features, as they are written
pub plain_starts : (k : ℕ) (fs : List (List Ring)) → starts_from k (map plain fs) ≡ starts_from k fs
plain_starts k [] = refl
plain_starts k (f ∷ fs) =
    let e : length (plain f) ≡ length f = length-map f (λ (r : Ring). take (length r.points - 1) (map place_of r.points)) in
    ap (λ x. k ∷ x) (ap (λ (n : ℕ). starts_from (k + n) (map plain fs)) e ∙ plain_starts (k + length f) fs)

-- a text stands for at most one list of features
pub same_features : (text : List ℕ) (a b : List (List (List Pt))) → StandsForFeatures text a → StandsForFeatures text b → a ≡ b
same_features text a b (v, h, x, e) (w, k, y, d) =
    let p = taken_features text v h in
    let q = taken_features text w k in
    let s : p.0 ≡ q.0 = same_Some p.0 q.0 (sym p.1 ∙ q.1) in
    let rings : joined v ≡ joined w = sym p.3 ∙ ap (λ (z : State). z.notes.rings) s ∙ q.3 in
    let starts : starts_from 0 v ≡ starts_from 0 w = sym p.4 ∙ ap (λ (z : State). z.notes.starts) s ∙ q.4 in
    let cut : AreCut a (all_rings b) (starts_from 0 b) = record {
      all = ap all_rings (sym e) ∙ sym (plain_joined v) ∙ ap plain rings ∙ plain_joined w ∙ ap all_rings d;
      firsts = ap (starts_from 0) (sym e) ∙ plain_starts 0 v ∙ starts ∙ sym (plain_starts 0 w) ∙ ap (starts_from 0) d;
    } in
    sym (cut_is a (all_rings b) (starts_from 0 b) cut) ∙ cut_is b (all_rings b) (starts_from 0 b) (record { all = refl; firsts = refl })

-- ---- one feature

-- the rings between two places are those of the feature with this number
abbrev IsAt : List (List (List Pt)) → ℕ → List (List Pt) → ℕ → ℕ → Type 0
IsAt fs i rings from past = (from ≤ past) × (past ≤ length rings) × (slice_get fs i ≡ Some (slice_range rings from past))

moved_at : (fs : List (List (List Pt))) (i : ℕ) (before f : List (List Pt)) (g : List (List Pt)) (gs : List (List (List Pt))) (P : List (List Pt) → List ℕ → Type 0)
    → P ((before ++ f) ++ all_rings (g ∷ gs)) (starts_from (length (before ++ f)) (g ∷ gs)) → P (before ++ (f ++ all_rings (g ∷ gs))) (starts_from (length before + length f) (g ∷ gs))
moved_at fs i before f g gs P h =
    subst (λ (n : ℕ). P (before ++ (f ++ all_rings (g ∷ gs))) (starts_from n (g ∷ gs))) (length-append before f)
    (subst (λ (x : List (List Pt)). P x (starts_from (length (before ++ f)) (g ∷ gs))) (append_assoc before f (all_rings (g ∷ gs))) h)

inner_at : (before : List (List Pt)) (fs : List (List (List Pt))) (i : ℕ) → suc i < length fs
    → IsAt fs i (before ++ all_rings fs) (get_or (starts_from (length before) fs) i 0) (get_or (starts_from (length before) fs) (suc i) 0)
inner_at before [] i lt = absurd (omega (arith, lt))
inner_at before (f ∷ []) i lt = absurd (omega (arith, lt))
inner_at before (f ∷ (g ∷ gs)) zero lt =
    let rest = all_rings (g ∷ gs) in
    let low : length before ≤ length before + length f = omega arith in
    let high : length before + length f ≤ length (before ++ (f ++ rest)) = omega (arith, length-append before (f ++ rest), length-append f rest) in
    (low, high, ap Some (sym (slice_first before f rest)))
inner_at before (f ∷ (g ∷ gs)) (suc i) lt =
    let lt' : suc i < length (g ∷ gs) = omega (arith, lt) in
    moved_at (g ∷ gs) i before f g gs (λ rings starts. IsAt (g ∷ gs) i rings (get_or starts i 0) (get_or starts (suc i) 0)) (inner_at (before ++ f) (g ∷ gs) i lt')

last_at : (before : List (List Pt)) (fs : List (List (List Pt))) (i : ℕ) → suc i ≡ length fs → IsAt fs i (before ++ all_rings fs) (get_or (starts_from (length before) fs) i 0) (length (before ++ all_rings fs))
last_at before [] i e = absurd (omega (arith, e))
last_at before (f ∷ []) zero e =
    let nothing : length (f ++ []) ≡ length f = ap (λ (x : List (List Pt)). length x) (append-nil f) in
    let n : length (before ++ (f ++ [])) ≡ length before + length f = omega (arith, length-append before (f ++ []), nothing) in
    let low : length before ≤ length (before ++ (f ++ [])) = omega (arith, n) in
    let high : length (before ++ (f ++ [])) ≤ length (before ++ (f ++ [])) = omega arith in
    (low, high, ap Some (sym (ap (slice_range (before ++ (f ++ [])) (length before)) n ∙ slice_first before f [])))
last_at before (f ∷ []) (suc i) e = absurd (omega (arith, e))
last_at before (f ∷ (g ∷ gs)) zero e = absurd (omega (arith, e))
last_at before (f ∷ (g ∷ gs)) (suc i) e =
    let e' : suc i ≡ length (g ∷ gs) = omega (arith, e) in
    moved_at (g ∷ gs) i before f g gs (λ rings starts. IsAt (g ∷ gs) i rings (get_or starts i 0) (length rings)) (last_at (before ++ f) (g ∷ gs) i e')

-- there is one start for each feature
pub length_starts : (k : ℕ) (fs : List (List (List Pt))) → length (starts_from k fs) ≡ length fs
length_starts k [] = refl
length_starts k (f ∷ fs) = ap suc (length_starts (k + length f) fs)

pub count_starts : (fs : List (List (List Pt))) (rings : List (List Pt)) (starts : List ℕ) → AreCut fs rings starts → length starts ≡ length fs
count_starts fs rings starts h = ap length (sym h.firsts) ∙ length_starts 0 fs

pub feature_at : (fs : List (List (List Pt))) (rings : List (List Pt)) (starts : List ℕ) (i : ℕ) → AreCut fs rings starts → i + 1 < length fs → IsFeatureAt fs i (get_or starts i 0) (get_or starts (i + 1) 0)
feature_at fs rings starts i h lt =
    let at : IsAt fs i (all_rings fs) (get_or starts i 0) (get_or starts (i + 1) 0) = subst (λ (n : ℕ). IsAt fs i (all_rings fs) (get_or starts i 0) (get_or starts n 0)) (sym (add-one i))
    (subst (λ (s : List ℕ). IsAt fs i (all_rings fs) (get_or s i 0) (get_or s (suc i) 0)) h.firsts (inner_at [] fs i (omega (arith, lt)))) in
    record { order = at.0; inside = at.1; is = at.2 }

pub last_feature : (fs : List (List (List Pt))) (rings : List (List Pt)) (starts : List ℕ) (i : ℕ) → AreCut fs rings starts → i + 1 ≡ length fs → IsFeatureAt fs i (get_or starts i 0) (length rings)
last_feature fs rings starts i h e =
    let at : IsAt fs i (all_rings fs) (get_or starts i 0) (length rings) =
    subst (λ (r : List (List Pt)). IsAt fs i (all_rings fs) (get_or starts i 0) (length r)) h.all
    (subst (λ (s : List ℕ). IsAt fs i (all_rings fs) (get_or s i 0) (length (all_rings fs))) h.firsts (last_at [] fs i (omega (arith, e)))) in
    record { order = at.0; inside = at.1; is = at.2 }
