-- The segments of a feature's rings close.
use Rattle.std.proofs.Common.{◌≡◌, ℕ, suc, ◌+◌, List, [], ◌∷◌, map, Bool, true, false, cond, refl, sym, ap, ◌∙◌, arith}
use Rattle.std.specs.Prelude.{◌==◌, ◌&&◌}
use Rattle.geom.specs.declared.point.Pt.{Pt}
use Rattle.geom.specs.declared.segment.Seg.{Seg}
use Rattle.geom.specs.declared.segment.Source.{Source}
use Rattle.geom.specs.Segments.{layer_steps, parts, same_point}
use Rattle.points_law.proofs.ClosedSegments.{count-tally, one, one_layer, tally, tally-append, tally-map}
use Rattle.cover_law.specs.Borders.{feature_parts, own_segments, owner_of, part_of, segment_part, step_of}
use Rattle.cover_law.specs.Laws.{FeaturesOfRingsClose}

abbrev ends_of : Seg → Pt × Pt
ends_of s = (s.a, s.b)

-- a segment's ends, by its parts
ends_from : (ss : List Seg) (ps : List (Pt × Pt × ℕ)) → map parts ss ≡ map segment_part ps → map ends_of ss ≡ map step_of ps
ends_from [] [] h = refl
ends_from [] (p ∷ ps) h = absurd (cc)
ends_from (s ∷ ss) [] h = absurd (cc)
ends_from (s ∷ ss) (p ∷ ps) h =
    let e : parts s ≡ segment_part p = cc in
    let r : map parts ss ≡ map segment_part ps = cc in
    ap (λ (x : Pt × Pt). x ∷ map ends_of ss) (ap (λ (x : Pt × Pt × Source). (x.0, x.1)) e) ∙ ap (λ (xs : List (Pt × Pt)). step_of p ∷ xs) (ends_from ss ps r)

-- ---- the parts of a feature
if_kept : {X : Type 0} (p : X → Bool) (t : Bool) (x : X) → tally p (cond t (x ∷ []) []) ≡ one (t && p x)
if_kept p true x = none (one (p x))
  where
    none : (n : ℕ) → n + 0 ≡ n
    none n = omega arith
if_kept p false x = refl

own_tally : (f : ℕ) (t : Pt × Pt → Bool) (ss : List Seg) (gs : List ℕ) (ps : List (Pt × Pt × ℕ)) → map ends_of ss ≡ map step_of ps → gs ≡ map owner_of ps
    → tally (λ s. t (ends_of s)) (own_segments f ss gs) ≡ tally (λ p. (f == owner_of p) && t (step_of p)) ps
own_tally f t [] gs [] h k = refl
own_tally f t [] gs (p ∷ ps) h k = absurd (cc)
own_tally f t (s ∷ ss) gs [] h k = absurd (cc)
own_tally f t (s ∷ ss) [] (p ∷ ps) h k = absurd (cc)
own_tally f t (s ∷ ss) (g ∷ gs) (p ∷ ps) h k =
    let e : ends_of s ≡ step_of p = cc in
    let r : map ends_of ss ≡ map step_of ps = cc in
    let o : g ≡ owner_of p = cc in
    let q : gs ≡ map owner_of ps = cc in
    tally-append (λ s. t (ends_of s)) (cond (f == g) (s ∷ []) []) (own_segments f ss gs)
    ∙ ap (λ (n : ℕ). n + tally (λ s. t (ends_of s)) (own_segments f ss gs)) (if_kept (λ s. t (ends_of s)) (f == g) s ∙ ap (λ (x : ℕ). one ((f == x) && t (ends_of s))) o ∙ ap (λ (x : Pt × Pt). one ((f == owner_of p) && t x)) e)
    ∙ ap (λ (n : ℕ). one ((f == owner_of p) && t (step_of p)) + n) (own_tally f t ss gs ps r q)

abbrev starts : Pt → Pt × Pt → Bool
starts v step = same_point step.0 v

abbrev stops : Pt → Pt × Pt → Bool
stops v step = same_point step.1 v

parts_close : (v : Pt) (f k : ℕ) (features : List (List (List Pt))) → tally (λ p. (f == owner_of p) && starts v (step_of p)) (feature_parts k features) ≡ tally (λ p. (f == owner_of p) && stops v (step_of p)) (feature_parts k features)
parts_close v f k [] = refl
parts_close v f k (rings ∷ features) =
    tally-append (λ p. (f == owner_of p) && starts v (step_of p)) (map (part_of k) (layer_steps rings)) (feature_parts (suc k) features)
    ∙ ap (λ (n : ℕ). n + tally (λ p. (f == owner_of p) && starts v (step_of p)) (feature_parts (suc k) features))
    (tally-map (part_of k) (λ p. (f == owner_of p) && starts v (step_of p)) (layer_steps rings) ∙ one_layer v (f == k) rings ∙ sym (tally-map (part_of k) (λ p. (f == owner_of p) && stops v (step_of p)) (layer_steps rings)))
    ∙ ap (λ (n : ℕ). tally (λ p. (f == owner_of p) && stops v (step_of p)) (map (part_of k) (layer_steps rings)) + n) (parts_close v f (suc k) features)
    ∙ sym (tally-append (λ p. (f == owner_of p) && stops v (step_of p)) (map (part_of k) (layer_steps rings)) (feature_parts (suc k) features))

pub features_of_rings_close : FeaturesOfRingsClose
features_of_rings_close features segments owners h f v =
    count-tally (λ s. same_point s.a v) (own_segments f segments owners)
    ∙ own_tally f (starts v) segments owners (feature_parts 0 features) (ends_from segments (feature_parts 0 features) h.parts_are) h.owners_are
    ∙ parts_close v f 0 features
    ∙ sym (own_tally f (stops v) segments owners (feature_parts 0 features) (ends_from segments (feature_parts 0 features) h.parts_are) h.owners_are)
    ∙ sym (count-tally (λ s. same_point s.b v) (own_segments f segments owners))
