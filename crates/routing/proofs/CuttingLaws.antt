-- Segments that are cut: their marks, their portions, and what these have of hot pixels and records.
use Rattle.std.proofs.Common.{◌≡◌, ◌⊎◌, inl, inr, ℕ, ◌+◌, ◌<◌, List, [], ◌∷◌, ◌++◌, Bool, refl, sym, ◌∙◌, ap, subst, length, get_or, take, ◌↔◌, ⊎_elim}
use Rattle.std.specs.Prelude.{Contains}
use Rattle.std.specs.List.Retain.{IsFiltered, DiffersFromLast}
use Rattle.std.specs.List.Sorted.{IsPermutation}
use Rattle.std.proofs.lemmas.List.Filters.{dedup_is}
use Rattle.std.proofs.lemmas.List.Kept.{Contains-from_dedup}
use Rattle.std.proofs.lemmas.List.Elements.{Contains-push, Contains-push_cases}
use Rattle.std.proofs.lemmas.List.Sorted.{Contains-permutation, IsPermutation-sym}
use Rattle.geom.specs.declared.point.Pt.{Pt}
use Rattle.geom.specs.declared.segment.Seg.{Seg}
use Rattle.geom.specs.declared.edge.Edge.{Edge}
use Rattle.geom.specs.Limit.{AreInLimit}
use Rattle.geom.specs.OnSegment.{IsOn}
use Rattle.geom.specs.Pixel.{Point}
use Rattle.geom.proofs.Edges.{edge_path}
use Rattle.hot_region.proofs.ListLaws.{none_in, in_push, in_take_more}
use Rattle.routing.specs.declared.on_line.OnLine.{OnLine}
use Rattle.routing.specs.declared.mark.Mark.{Mark}
use Rattle.routing.specs.Cutting.{AddsPortions, AreAmong, AreCut, AreMarks, IsCutFrom, IsCutPoint, IsEndIn, IsPortion, IsPortionAt, LiesBetween}
use Rattle.routing.specs.Recording.{IsTable}
use Rattle.routing.specs.Cutting.IsCutPoint.{start, end, mark}
use Rattle.routing.proofs.PortionLaws.{first_portion, itself, last_portion, on_either, portion_of_portion}

-- ---- marks
pub end_at : (table : List OnLine) (x : OnLine) (c : Pt) → Contains table x → (x.edge.p ≡ c) ⊎ (x.edge.q ≡ c) → IsEndIn table c
end_at table x c h e = record { x = x; listed = h; is_end = e }

pub marks_none : (table : List OnLine) → AreMarks table []
marks_none table m h = absurd (none_in m h)

pub marks_more : (table : List OnLine) (marks : List Mark) (m : Mark) → IsEndIn table m.point → AreMarks table marks → AreMarks table (marks ++ m ∷ [])
marks_more table marks m at h n k = ⊎_elim (λ l. h n l) (λ e. subst (λ (x : Mark). IsEndIn table x.point) e at) (Contains-push_cases marks m n k)

pub marks_sorted : {E : Mark → Mark → Bool} (table : List OnLine) (marks sorted once : List Mark) → IsPermutation marks sorted → IsFiltered (DiffersFromLast E) [] sorted once → AreMarks table marks → AreMarks table once
marks_sorted {E = E} table marks sorted once moved kept h m k = h m (Contains-permutation sorted marks m (IsPermutation-sym marks sorted moved) (Contains-from_dedup E sorted m (rw (dedup_is E sorted once kept) at k)))

pub among_none : (marks : List Mark) → AreAmong marks []
among_none marks m h = absurd (none_in m h)

pub among_more : (marks some : List Mark) (m : Mark) → Contains marks m → AreAmong marks some → AreAmong marks (some ++ m ∷ [])
among_more marks some m at h n k = ⊎_elim (λ l. h n l) (λ e. subst (λ (x : Mark). Contains marks x) e at) (Contains-push_cases some m n k)

-- ---- the portions of one edge, as they are found
-- list has what old has, and portions of whole; rest, from the start on, is what is left of it
pub record AddsSome (whole : OnLine) (marks : List Mark) (from : Pt) (old list : List OnLine) : Type 0 where
  pub rest : Edge
  pub p_is : rest.p ≡ from
  pub within : AreInLimit rest.p rest.q
  pub portion : IsPortion whole.edge rest
  pub p_cut : IsCutPoint whole.edge marks rest.p
  pub q_is : rest.q ≡ whole.edge.q
  pub kept : (y : OnLine) → Contains old y → Contains list y
  pub only : (y : OnLine) → Contains list y → Contains old y ⊎ IsPortionAt whole marks y
  pub all : (z : Point) → IsOn whole.edge.p whole.edge.q z → IsOn rest.p rest.q z ⊎ ((y : OnLine) × Contains list y × (y.number ≡ whole.number) × IsOn y.edge.p y.edge.q z)
  pub first : (rest.p ≡ whole.edge.p) ⊎ ((y : OnLine) × Contains list y × (y.edge.p ≡ whole.edge.p))

pub some_none : (whole : OnLine) (marks : List Mark) (old : List OnLine) → AddsSome whole marks whole.edge.p old old
some_none whole marks old = record { rest = whole.edge; p_is = refl; within = whole.in_limit; portion = itself whole.edge; p_cut = start refl; q_is = refl; kept = λ y h. h; only = λ y h. inl h; all = λ z on. inl on; first = inl refl }

module _ (whole : OnLine) (marks : List Mark) (from : Pt) (old list : List OnLine) (h : AddsSome whole marks from old list) where
  abbrev pub rest : Edge
  rest = h.rest

  pub some_more : (m : Mark) (f : Edge) (y : OnLine) → Contains marks m → LiesBetween f m.point → f.p ≡ from → f.q ≡ whole.edge.q → y.number ≡ whole.number → y.edge.p ≡ from → y.edge.q ≡ m.point → AddsSome whole marks m.point old (list ++ y ∷ [])
  some_more m f y listed between_f f_p f_q numbered starts is_q = record {
    rest = left;
    p_is = refl;
    within = record { a_in = m.in_limit; b_in = h.within.b_in };
    portion = portion_of_portion whole.edge rest left h.portion (last_portion rest m.point between left refl refl);
    p_cut = mark m listed refl;
    q_is = h.q_is;
    kept = λ x k. in_push list x y (h.kept x k);
    only = λ x k. ⊎_elim (λ n. h.only x n) (λ e. inr (subst (λ (u : OnLine). IsPortionAt whole marks u) e this)) (Contains-push_cases list y x k);
    all = λ z on. ⊎_elim
        (λ on_rest. ⊎_elim
        (λ a. inr (y, Contains-push list y, numbered, subst (λ (p : Pt). IsOn p y.edge.q z) (sym is_p) (subst (λ (q : Pt). IsOn rest.p q z) (sym is_q) a)))
        (λ b. inl b)
        (on_either rest m.point between z on_rest))
        (λ r. inr (r.0, in_push list r.0 y r.1, r.2, r.3))
        (h.all z on);
    first = ⊎_elim (λ e. inr (y, Contains-push list y, is_p ∙ e)) (λ r. inr (r.0, in_push list r.0 y r.1, r.2)) h.first;
  }
    where
      between : LiesBetween rest m.point
      between = subst (λ (e : Edge). LiesBetween e m.point) (edge_path f rest (f_p ∙ sym h.p_is) (f_q ∙ sym h.q_is)) between_f

      left : Edge
      left = record { p = m.point; q = rest.q; ordered = between.to }

      is_p : y.edge.p ≡ rest.p
      is_p = starts ∙ sym h.p_is

      this : IsPortionAt whole marks y
      this = record {
        numbered = numbered;
        portion = portion_of_portion whole.edge rest y.edge h.portion (first_portion rest m.point between y.edge is_p is_q);
        p_cut = subst (λ (p : Pt). IsCutPoint whole.edge marks p) (sym is_p) h.p_cut;
        q_cut = mark m listed (sym is_q);
      }

  pub some_last : (y : OnLine) → y.number ≡ whole.number → y.edge.p ≡ from → y.edge.q ≡ whole.edge.q → AddsPortions whole marks old (list ++ y ∷ [])
  some_last y numbered starts ends = record {
    kept = λ x k. in_push list x y (h.kept x k);
    only = λ x k. ⊎_elim (λ n. h.only x n) (λ e. inr (subst (λ (u : OnLine). IsPortionAt whole marks u) e this)) (Contains-push_cases list y x k);
    all = λ z on. ⊎_elim
        (λ a. (y, Contains-push list y, numbered, subst (λ (e : Edge). IsOn e.p e.q z) (sym is) a))
        (λ r. (r.0, in_push list r.0 y r.1, r.2, r.3))
        (h.all z on);
    first = ⊎_elim (λ e. (y, Contains-push list y, ap (λ (f : Edge). f.p) is ∙ e)) (λ r. (r.0, in_push list r.0 y r.1, r.2)) h.first;
    last = (y, Contains-push list y, ap (λ (f : Edge). f.q) is ∙ h.q_is);
  }
    where
      is : y.edge ≡ rest
      is = edge_path y.edge rest (starts ∙ sym h.p_is) (ends ∙ sym h.q_is)

      this : IsPortionAt whole marks y
      this = record {
        numbered = numbered;
        portion = subst (λ (f : Edge). IsPortion whole.edge f) (sym is) h.portion;
        p_cut = subst (λ (f : Edge). IsCutPoint whole.edge marks f.p) (sym is) h.p_cut;
        q_cut = end (sym h.q_is ∙ sym (ap (λ (f : Edge). f.q) is));
      }

-- ---- the portions of a table
pub cut_none : (table : List OnLine) → AreCut table [] []
cut_none table = record { only = λ y h. absurd (none_in y h); all = λ x z h on. absurd (none_in x h); first = λ x h. absurd (none_in x h); last = λ x h. absurd (none_in x h) }

module _ (table : List OnLine) (i : ℕ) (x : OnLine) (below : i < length table) (is : x ≡ get_or table i x) where
  more : (y : OnLine) → Contains (take (i + 1) table) y ↔ (Contains (take i table) y ⊎ (x ≡ y))
  more y = in_take_more table i x below is y

  in_table : Contains table x
  in_table = (i, below, sym is)

  pub cut_more : (marks : List Mark) (old new : List OnLine) → AreMarks table marks → AreCut table (take i table) old → AddsPortions x marks old new → AreCut table (take (i + 1) table) new
  cut_more marks old new are h g = record {
    only = λ y k. ⊎_elim (λ n. widen y (h.only y n)) (λ n. own y n) (g.only y k);
    all = λ w z k on. ⊎_elim
        (λ n. let r = h.all w z n on in (r.0, g.kept r.0 r.1, r.2, r.3))
        (λ e. let r = g.all z (subst (λ (u : OnLine). IsOn u.edge.p u.edge.q z) (sym e) on) in (r.0, r.1, r.2 ∙ ap (λ (u : OnLine). u.number) e, r.3))
        ((more w).0 k);
    first = λ w k. ⊎_elim
        (λ n. let r = h.first w n in (r.0, g.kept r.0 r.1, r.2))
        (λ e. (g.first.0, g.first.1, g.first.2 ∙ ap (λ (u : OnLine). u.edge.p) e))
        ((more w).0 k);
    last = λ w k. ⊎_elim
        (λ n. let r = h.last w n in (r.0, g.kept r.0 r.1, r.2))
        (λ e. (g.last.0, g.last.1, g.last.2 ∙ ap (λ (u : OnLine). u.edge.q) e))
        ((more w).0 k);
  }
    where
      widen : (y : OnLine) → IsCutFrom table (take i table) y → IsCutFrom table (take (i + 1) table) y
      widen y k = record { whole = k.whole; listed = (more k.whole).1 (inl k.listed); numbered = k.numbered; portion = k.portion; p_end = k.p_end; q_end = k.q_end }

      cut_end : (c : Pt) → IsCutPoint x.edge marks c → IsEndIn table c
      cut_end c (start e) = record { x = x; listed = in_table; is_end = inl e }
      cut_end c (end e) = record { x = x; listed = in_table; is_end = inr e }
      cut_end c (mark m listed e) = subst (λ (p : Pt). IsEndIn table p) e (are m listed)

      own : (y : OnLine) → IsPortionAt x marks y → IsCutFrom table (take (i + 1) table) y
      own y k = record { whole = x; listed = (more x).1 (inr refl); numbered = k.numbered; portion = k.portion; p_end = cut_end y.edge.p k.p_cut; q_end = cut_end y.edge.q k.q_cut }

-- a table that isn't cut
pub cut_itself : (table : List OnLine) → AreCut table table table
cut_itself table = record {
  only = λ y h. record { whole = y; listed = h; numbered = refl; portion = itself y.edge; p_end = record { x = y; listed = h; is_end = inl refl }; q_end = record { x = y; listed = h; is_end = inr refl } };
  all = λ x z h on. (x, h, refl, on);
  first = λ x h. (x, h, refl);
  last = λ x h. (x, h, refl);
}

-- the table of segments in another order
pub table_sorted : (segments : List Seg) (numbers : List ℕ) (table sorted : List OnLine) → IsPermutation table sorted → IsTable segments numbers table → IsTable segments numbers sorted
table_sorted segments numbers table sorted moved h = record {
  only = λ x k. h.only x (Contains-permutation sorted table x (IsPermutation-sym table sorted moved) k);
  all = λ k listed. let r = h.all k listed in (r.0, Contains-permutation table sorted r.0 moved r.1, r.2);
}

pub cut_sorted : (table portions sorted : List OnLine) → IsPermutation portions sorted → AreCut table table portions → AreCut table table sorted
cut_sorted table portions sorted moved h = record {
  only = λ y k. h.only y (Contains-permutation sorted portions y (IsPermutation-sym portions sorted moved) k);
  all = λ x z k on. let r = h.all x z k on in (r.0, Contains-permutation portions sorted r.0 moved r.1, r.2, r.3);
  first = λ x k. let r = h.first x k in (r.0, Contains-permutation portions sorted r.0 moved r.1, r.2);
  last = λ x k. let r = h.last x k in (r.0, Contains-permutation portions sorted r.0 moved r.1, r.2);
}
