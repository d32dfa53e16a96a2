-- Cover sets across an edge, and above all edges.
use Rattle.std.proofs.Common.{◌≡◌, inl, inr, ℕ, List, [], ◌∷◌, Bool, true, false, not, cond, refl, sym, ap, ◌∙◌, arith, subst}
use Rattle.std.specs.List.{filter}
use Rattle.std.specs.Prelude.{◌&&◌, if◌then◌else◌}
use Rattle.geom.specs.declared.edge.Edge.{Edge}
use Rattle.geom.specs.Parity as geom
use Rattle.geom.specs.ResultEdges.{left_side, right_side}
use Rattle.geom.proofs.Lists.{In, in_contains, in_map, map_in}
use Rattle.points_law.proofs.Sums.{par_cong, par_none}
use Rattle.points_law.proofs.Layers.{odd_is}
use Rattle.cover_law.specs.Cover.{Bordered, border, cover, edge_in, edges_in, has, numbers_from}
use Rattle.cover_law.specs.Rows.{differ}
use Rattle.cover_law.specs.Laws.{CoverIsBeyond, OutsideIsEmpty}
use Rattle.cover_law.proofs.AreasAdd.{in_filter}
use Rattle.cover_law.proofs.Covers.{in_numbers, right_is_across}
use Rattle.cover_law.proofs.RoundedBorders.{has_odd}

-- ---- filters that agree on a list
both_kept : (s t : Bool) (x : ℕ) (xs ys : List ℕ) → s ≡ t → xs ≡ ys → cond s (x ∷ xs) xs ≡ cond t (x ∷ ys) ys
both_kept s t x xs ys h k = ap (λ (u : Bool). cond u (x ∷ xs) xs) h ∙ ap (λ (zs : List ℕ). cond t (x ∷ zs) zs) k

agree_on : (p q : ℕ → Bool) (xs : List ℕ) → ((x : ℕ) → In x xs → p x ≡ q x) → filter p xs ≡ filter q xs
agree_on p q [] h = refl
agree_on p q (x ∷ xs) h = both_kept (p x) (q x) x (filter p xs) (filter q xs) (h x (inl refl)) (agree_on p q xs (λ y i. h y (inr i)))

none_pass : (p : ℕ → Bool) (xs : List ℕ) → ((x : ℕ) → p x ≡ false) → filter p xs ≡ []
none_pass p [] h = refl
none_pass p (x ∷ xs) h = ap (λ (t : Bool). cond t (x ∷ filter p xs) (filter p xs)) (h x) ∙ none_pass p xs h

-- ---- across an edge
exchanged : (a t : Bool) → (if t then not a else a) ≡ differ a t
exchanged true true = refl
exchanged true false = refl
exchanged false true = refl
exchanged false false = refl

pub cover_is_beyond : CoverIsBeyond
cover_is_beyond count bs h b i = agree_on (λ f. geom.parity (border f bs) (right_side b.edge.p b.edge.q)) (λ f. differ (has f (cover count bs (left_side b.edge.p b.edge.q))) (has f b.features)) (numbers_from 0 count)
    (λ f j. right_is_across bs h b i f
    ∙ exchanged (geom.parity (border f bs) (left_side b.edge.p b.edge.q)) (has f b.features)
    ∙ ap (λ (t : Bool). differ t (has f b.features)) (sym (has_odd count f (let l = (in_numbers 0 count f j).1 in omega arith) (λ k. geom.parity (border k bs) (left_side b.edge.p b.edge.q)))))

-- ---- above all edges
in_border : (f : ℕ) (bs : List Bordered) (e : Edge) → In e (border f bs) → In e (edges_in bs)
in_border f bs e i = let m = in_map edge_in (filter (λ b. has f b.features) bs) e i in subst (λ (x : Edge). In x (edges_in bs)) m.2 (map_in edge_in bs m.0 (in_filter (λ b. has f b.features) bs m.0 m.1))

pub outside_is_empty : OutsideIsEmpty
outside_is_empty count bs z h = none_pass (λ f. geom.parity (border f bs) z) (numbers_from 0 count)
    (λ f. odd_is (λ e. geom.covers e z && geom.lies_above e z) (border f bs)
    ∙ par_cong (λ e. geom.covers e z && geom.lies_above e z) (λ e. false) (border f bs) (λ e i. h e (in_contains (edges_in bs) e (in_border f bs e i)))
    ∙ par_none (border f bs))
