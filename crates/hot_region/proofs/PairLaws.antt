-- All pairs of lines: the first ones, as many as there are lanes, crossed with all, and then those behind them likewise.
use Rattle.std.proofs.Common.{◌≡◌, ◌⊎◌, inl, inr, ℕ, ◌+◌, ◌-◌, ◌<◌, ◌≤◌, List, [], ◌∷◌, ◌++◌, refl, sym, ◌∙◌, ap, arith, subst, length, get_or, take, drop, ◌↔◌, ⊎_elim}
use Rattle.std.specs.Prelude.{Contains}
use Rattle.std.proofs.lemmas.Bool.{cases_lt}
use Rattle.std.proofs.lemmas.List.{drop-map, length-drop, length-map, length-take, take-append-drop, take-take, take_all}
use Rattle.std.proofs.lemmas.List.Elements.{Contains-append_cases, Contains-append_left, Contains-append_right}
use Rattle.geom.specs.declared.point.Pt.{Pt}
use Rattle.geom.specs.declared.rect.Rect.{Rect}
use Rattle.geom.specs.declared.edge.Edge.{Edge}
use Rattle.geom.specs.Box.{least_corner, greatest_corner}
use Rattle.box_lanes.specs.Sides.{Corners}
use Rattle.hot_region.specs.declared.lines.Line.{Line}
use Rattle.hot_region.specs.Boxes.{box_of, boxes_of}
use Rattle.hot_region.specs.Halving.{edges_of, IsEndOf}
use Rattle.hot_region.specs.Lines.{CrossAt, HasAllCrossed, HasBothCrossed, HasCrossed}
use Rattle.hot_region.specs.Rects.{IsIn}
use Rattle.hot_region.proofs.BoxLaws.{boxes_more}
use Rattle.hot_region.proofs.HalvingLaws.{edges_taken, taken_in}
use Rattle.hot_region.proofs.LineLaws.{segment_of}
use Rattle.hot_region.proofs.ListLaws.{in_take_more, take_parts}
use Rattle.hot_region.proofs.CrossingLaws.{cross_turn, crossing_of, not_itself}

-- ---- the first of the edges that were read
front_all : (edges : List Edge) (i : ℕ) → i ≤ 32 → take 32 (take i edges) ≡ take i edges
front_all edges i few = take_all 32 (take i edges) (let l = length-take i edges in omega arith)

-- of the first lines those that stand before one of them
pub front_is : (lines : List Line) (i n : ℕ) → (i < 32 → n ≡ i) → (32 ≤ i → n ≡ 32) → edges_of (take n lines) ≡ take 32 (take i (edges_of lines))
front_is lines i n few many = sym (edges_taken lines n) ∙ ⊎_elim
    (λ l. ap (λ k. take k (edges_of lines)) (few l) ∙ sym (front_all (edges_of lines) i (omega arith)))
    (λ l. ap (λ k. take k (edges_of lines)) (many l) ∙ sym (take-take 32 i (edges_of lines) l))
    (cases_lt i 32)

pub front_few : (edges : List Edge) (i : ℕ) (boxes : List Corners) → i < 32 → boxes ≡ boxes_of (take 32 (take i edges)) → length boxes < 32
front_few edges i boxes few is =
    let a = ap length is in
    let b = length-map (take 32 (take i edges)) box_of in
    let d = length-take 32 (take i edges) in
    let e = length-take i edges in
    omega arith

front_in : (edges : List Edge) (i : ℕ) (x : Edge) → Contains (take 32 (take i edges)) x → Contains (take 32 edges) x
front_in edges i x h = ⊎_elim
    (λ few. taken_in (take 32 edges) i x (subst (λ (es : List Edge). Contains es x) (sym (take-take i 32 edges (omega arith))) (taken_in (take i edges) 32 x h)))
    (λ many. subst (λ (es : List Edge). Contains es x) (take-take 32 i edges many) h)
    (cases_lt i 32)

module _ (edges : List Edge) (i : ℕ) (e : Edge) (below : i < length edges) (is : e ≡ get_or edges i e) where
  more : (x : Edge) → Contains (take (i + 1) edges) x ↔ (Contains (take i edges) x ⊎ (e ≡ x))
  more x = in_take_more edges i e below is x

  front_more : i < 32 → take 32 (take (i + 1) edges) ≡ take (i + 1) edges
  front_more few = front_all edges (i + 1) (omega arith)

  front_same : 32 ≤ i → take 32 (take (i + 1) edges) ≡ take 32 (take i edges)
  front_same many = take-take 32 (i + 1) edges (omega arith) ∙ sym (take-take 32 i edges many)

  front_cases : (x : Edge) → Contains (take 32 (take (i + 1) edges)) x → Contains (take 32 (take i edges)) x ⊎ ((e ≡ x) × (i < 32))
  front_cases x h = ⊎_elim
      (λ few. ⊎_elim
      (λ m. inl (subst (λ (es : List Edge). Contains es x) (sym (front_all edges i (omega arith))) m))
      (λ m. inr (m, few))
      ((more x).0 (subst (λ (es : List Edge). Contains es x) (front_more few) h)))
      (λ many. inl (subst (λ (es : List Edge). Contains es x) (front_same many) h))
      (cases_lt i 32)

  front_widen : (x : Edge) → Contains (take 32 (take i edges)) x → Contains (take 32 (take (i + 1) edges)) x
  front_widen x h = ⊎_elim
      (λ few. subst (λ (es : List Edge). Contains es x) (sym (front_more few)) ((more x).1 (inl (subst (λ (es : List Edge). Contains es x) (front_all edges i (omega arith)) h))))
      (λ many. subst (λ (es : List Edge). Contains es x) (sym (front_same many)) h)
      (cases_lt i 32)

  -- one more line, crossed with the first ones before it
  pub first_more : (rect : Rect) (old found new : List Pt) → HasBothCrossed rect (take 32 (take i edges)) (take i edges) old found → HasCrossed rect e (take 32 (take i edges)) found new → HasBothCrossed rect (take 32 (take (i + 1) edges)) (take (i + 1) edges) old new
  first_more rect old found new h g = record {
    kept = λ c k. g.kept c (h.kept c k);
    only = λ c k. ⊎_elim
        (λ m. ⊎_elim (λ n. inl n) (λ n. inr ((n.0.0, n.0.1, front_widen n.0.0 n.0.2, (more n.0.1).1 (inl n.0.3), n.0.4), n.1)) (h.only c m))
        (λ m. inr ((m.0.0, e, front_widen m.0.0 m.0.1, (more e).1 (inr refl), cross_turn m.0.0 e c m.0.2), m.1))
        (g.only c k);
    all = λ x y c j k a t. ⊎_elim
        (λ m. ⊎_elim
        (λ n. g.kept c (h.all x y c m n a t))
        (λ n. g.all x c m (cross_turn e x c (subst (λ (z : Edge). CrossAt z x c) (sym n) a)) t)
        ((more y).0 k))
        (λ m. ⊎_elim
        (λ n. g.all y c (subst (λ (es : List Edge). Contains es y) (sym (front_all edges i (let few = m.1 in omega arith))) n) (subst (λ (z : Edge). CrossAt y z c) (sym m.0) a) t)
        (λ n. absurd (not_itself (segment_of e) c (crossing_of e e c (subst (λ (z : Edge). CrossAt z e c) (sym n) (subst (λ (z : Edge). CrossAt y z c) (sym m.0) a)))))
        ((more y).0 k))
        (front_cases x j);
  }

  -- and its box, if it is one of them
  pub front_boxes : (boxes : List Corners) (lo hi : Pt) → i < 32 → boxes ≡ boxes_of (take 32 (take i edges)) → lo ≡ least_corner e.p e.q → hi ≡ greatest_corner e.p e.q → boxes ++ (lo, hi) ∷ [] ≡ boxes_of (take 32 (take (i + 1) edges))
  front_boxes boxes lo hi few h f g = boxes_more edges i e boxes lo hi below is (h ∙ ap boxes_of (front_all edges i (omega arith))) f g ∙ ap boxes_of (sym (front_more few))

  pub front_stays : (boxes : List Corners) → 32 ≤ i → boxes ≡ boxes_of (take 32 (take i edges)) → boxes ≡ boxes_of (take 32 (take (i + 1) edges))
  front_stays boxes many h = h ∙ ap boxes_of (sym (front_same many))

-- all lines are read
pub first_all : (rect : Rect) (edges : List Edge) (i : ℕ) (old found : List Pt) → length edges ≤ i → HasBothCrossed rect (take 32 (take i edges)) (take i edges) old found → HasBothCrossed rect (take 32 edges) edges old found
first_all rect edges i old found past h = subst (λ (es : List Edge). HasBothCrossed rect (take 32 es) es old found) (take_all i edges past) h

-- a rectangle of one pixel, which is found
pub first_found : (rect : Rect) (edges : List Edge) (i : ℕ) (old found : List Pt) → ((c : Pt) → IsIn rect c → Contains found c) → HasBothCrossed rect (take 32 (take i edges)) (take i edges) old found → HasBothCrossed rect (take 32 edges) edges old found
first_found rect edges i old found has h = record {
  kept = h.kept;
  only = λ c k. ⊎_elim (λ m. inl m) (λ m. inr ((m.0.0, m.0.1, front_in edges i m.0.0 m.0.2, taken_in edges i m.0.1 m.0.3, m.0.4), m.1)) (h.only c k);
  all = λ x y c j k a t. has c t;
}

-- ---- the first lines crossed with all, then those behind them with all behind
module _ (rect : Rect) (edges : List Edge) where
  behind_in : (from : ℕ) (x : Edge) → Contains (drop from edges) x → Contains edges x
  behind_in from x h = subst (λ (es : List Edge). Contains es x) (take-append-drop from edges) (Contains-append_right (take from edges) (drop from edges) x h)

  pub firsts_none : (old : List Pt) → HasBothCrossed rect (take 0 edges) edges old old
  firsts_none old = record { kept = λ c h. h; only = λ c h. inl h; all = λ x y c j k a t. absurd (omega (arith, j.1)) }

  taken_on : (from past : ℕ) → from ≤ length edges → (from + 32 ≤ length edges → past ≡ from + 32) → (length edges ≤ from + 32 → past ≡ length edges) → take past edges ≡ take from edges ++ take 32 (drop from edges)
  taken_on from past within some rest = ⊎_elim
      (λ l. let p = some (omega arith) in let q : past - from ≡ 32 = omega arith in take_parts edges from past (omega arith) within ∙ ap (λ n. take from edges ++ take n (drop from edges)) q)
      (λ l. let p = rest (omega arith) in let d = length-drop from edges in take_all past edges (omega arith) ∙ sym (take-append-drop from edges) ∙ ap (λ (es : List Edge). take from edges ++ es) (sym (take_all 32 (drop from edges) (omega arith))))
      (cases_lt (from + 32) (length edges))

  pub firsts_more : (from past : ℕ) (old found new : List Pt) → from ≤ length edges → (from + 32 ≤ length edges → past ≡ from + 32) → (length edges ≤ from + 32 → past ≡ length edges)
      → HasBothCrossed rect (take from edges) edges old found → HasBothCrossed rect (take 32 (drop from edges)) (drop from edges) found new → HasBothCrossed rect (take past edges) edges old new
  firsts_more from past old found new within some rest h g = subst (λ (es : List Edge). HasBothCrossed rect es edges old new) (sym (taken_on from past within some rest)) (record {
    kept = λ c k. g.kept c (h.kept c k);
    only = λ c k. ⊎_elim
        (λ m. ⊎_elim (λ n. inl n) (λ n. inr ((n.0.0, n.0.1, Contains-append_left (take from edges) (take 32 (drop from edges)) n.0.0 n.0.2, n.0.3, n.0.4), n.1)) (h.only c m))
        (λ m. inr ((m.0.0, m.0.1, Contains-append_right (take from edges) (take 32 (drop from edges)) m.0.0 m.0.2, behind_in from m.0.1 m.0.3, m.0.4), m.1))
        (g.only c k);
    all = λ x y c j k a t. ⊎_elim
        (λ m. g.kept c (h.all x y c m k a t))
        (λ m. ⊎_elim
        (λ n. g.kept c (h.all y x c n (behind_in from x (taken_in (drop from edges) 32 x m)) (cross_turn y x c a) t))
        (λ n. g.all x y c m n a t)
        (Contains-append_cases (take from edges) (drop from edges) y (subst (λ (es : List Edge). Contains es y) (sym (take-append-drop from edges)) k)))
        (Contains-append_cases (take from edges) (take 32 (drop from edges)) x j);
  })

  pub firsts_all : (from : ℕ) (old found : List Pt) → length edges ≤ from → HasBothCrossed rect (take from edges) edges old found → HasAllCrossed rect edges old found
  firsts_all from old found past h =
      let g = subst (λ (es : List Edge). HasBothCrossed rect es edges old found) (take_all from edges past) h in
      record {
        kept = g.kept;
        only = λ c k. ⊎_elim (λ m. inl m) (λ m. inr ((m.0.1, m.0.0, m.0.3, m.0.2, m.0.4), m.1)) (g.only c k);
        all = λ x y c j k a t. g.all y x c k j a t;
      }

-- an end of those behind is an end of the lines
pub ends_behind : (lines : List Line) (from : ℕ) (c : Pt) → IsEndOf (edges_of (drop from lines)) c → IsEndOf (edges_of lines) c
ends_behind lines from c k = record {
  e = k.e;
  listed = subst (λ (es : List Edge). Contains es k.e) (take-append-drop from (edges_of lines)) (Contains-append_right (take from (edges_of lines)) (drop from (edges_of lines)) k.e (subst (λ (es : List Edge). Contains es k.e) (sym (drop-map (λ (l : Line). l.edge) from lines)) k.listed));
  is_end = k.is_end;
}
