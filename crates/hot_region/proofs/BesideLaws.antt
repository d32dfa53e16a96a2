-- Where nearly all lines run side by side, what the others end at and cross is all that is hot.
use Rattle.std.proofs.Common.{◌≡◌, ◌⊎◌, inl, inr, ℕ, ◌+◌, ◌<◌, ◌≤◌, List, [], ◌∷◌, ◌++◌, refl, sym, ◌∙◌, ap, subst, length, get_or, take, ◌↔◌, ⊎_elim}
use Rattle.std.specs.Prelude.{Contains, slice_range}
use Rattle.std.proofs.lemmas.List.{map-append, take_all}
use Rattle.std.proofs.lemmas.List.Elements.{Contains-append_cases, Contains-append_left, Contains-append_right, Contains-push, Contains-push_cases}
use Rattle.geom.specs.declared.point.Pt.{Pt}
use Rattle.geom.specs.declared.rect.Rect.{Rect}
use Rattle.geom.specs.declared.edge.Edge.{Edge}
use Rattle.hot_region.specs.declared.lines.Line.{Line}
use Rattle.hot_region.specs.Beside.{AreParted, TakePart}
use Rattle.hot_region.specs.Halving.{edges_of, HasEndsToo, HasHot, IsHotFor}
use Rattle.hot_region.specs.Lines.{CrossAt, HasBothCrossed, HasCrossed}
use Rattle.hot_region.specs.Rects.{IsIn}
use Rattle.hot_region.proofs.HalvingLaws.{edge_in, line_at}
use Rattle.hot_region.proofs.ListLaws.{in_push, in_take_more, none_in, take_parts}
use Rattle.hot_region.proofs.CrossingLaws.{cross_turn}

-- ---- lines parted
pub parted_none : AreParted [] [] []
parted_none = record { beside_among = λ l h. h; others_among = λ l h. h; all = λ l h. absurd (none_in l h) }

module _ (lines : List Line) (i : ℕ) (l : Line) (below : i < length lines) (is : l ≡ get_or lines i l) (beside others : List Line) (h : AreParted (take i lines) beside others) where
  more : (m : Line) → Contains (take (i + 1) lines) m ↔ (Contains (take i lines) m ⊎ (l ≡ m))
  more m = in_take_more lines i l below is m

  pub parted_beside : AreParted (take (i + 1) lines) (beside ++ l ∷ []) others
  parted_beside = record {
    beside_among = λ m k. (more m).1 (⊎_elim (λ n. inl (h.beside_among m n)) (λ e. inr e) (Contains-push_cases beside l m k));
    others_among = λ m k. (more m).1 (inl (h.others_among m k));
    all = λ m k. ⊎_elim
        (λ n. ⊎_elim (λ o. inl (in_push beside m l o)) (λ o. inr o) (h.all m n))
        (λ e. inl (subst (λ (x : Line). Contains (beside ++ l ∷ []) x) e (Contains-push beside l)))
        ((more m).0 k);
  }

  pub parted_others : AreParted (take (i + 1) lines) beside (others ++ l ∷ [])
  parted_others = record {
    beside_among = λ m k. (more m).1 (inl (h.beside_among m k));
    others_among = λ m k. (more m).1 (⊎_elim (λ n. inl (h.others_among m n)) (λ e. inr e) (Contains-push_cases others l m k));
    all = λ m k. ⊎_elim
        (λ n. ⊎_elim (λ o. inl o) (λ o. inr (in_push others m l o)) (h.all m n))
        (λ e. inr (subst (λ (x : Line). Contains (others ++ l ∷ []) x) e (Contains-push others l)))
        ((more m).0 k);
  }

pub parted_all : (lines : List Line) (i : ℕ) (beside others : List Line) → length lines ≤ i → AreParted (take i lines) beside others → AreParted lines beside others
parted_all lines i beside others past h = subst (λ (ls : List Line). AreParted ls beside others) (take_all i lines past) h

-- ---- those that run side by side make no pixel hot
module _ (rect : Rect) (lines beside others : List Line) (are : AreParted lines beside others) (none : (c : Pt) → IsIn rect c → IsHotFor (edges_of beside) c → ⊥) where
  either : (e : Edge) → Contains (edges_of lines) e → Contains (edges_of beside) e ⊎ Contains (edges_of others) e
  either e h =
      let r = line_at lines e h in
      ⊎_elim
      (λ k. inl (subst (λ (x : Edge). Contains (edges_of beside) x) r.2 (edge_in beside r.0 k)))
      (λ k. inr (subst (λ (x : Edge). Contains (edges_of others) x) r.2 (edge_in others r.0 k)))
      (are.all r.0 r.1)

  pub others_take_part : TakePart rect lines others
  others_take_part = record {
    among = are.others_among;
    ends = λ c t k. ⊎_elim
        (λ b. absurd (none c t (inl (record { e = k.e; listed = b; is_end = k.is_end }))))
        (λ o. record { e = k.e; listed = o; is_end = k.is_end })
        (either k.e k.listed);
    crossings = λ e f c t h k x. ⊎_elim
        (λ a. ⊎_elim (λ b. absurd (none c t (inr (record { e = e; f = f; e_listed = a; f_listed = b; crosses = x })))) (λ o. inr o) (either f k))
        (λ o. inl o)
        (either e h);
  }

-- ---- others, crossed one after the other
pub both_none : (rect : Rect) (second : List Edge) (old : List Pt) → HasBothCrossed rect [] second old old
both_none rect second old = record { kept = λ c h. h; only = λ c h. inl h; all = λ e f c h k x t. absurd (none_in e h) }

pub both_more : (rect : Rect) (first second : List Edge) (i : ℕ) (e : Edge) (old found new : List Pt) → i < length first → e ≡ get_or first i e → HasBothCrossed rect (take i first) second old found → HasCrossed rect e second found new → HasBothCrossed rect (take (i + 1) first) second old new
both_more rect first second i e old found new below is h g = record {
  kept = λ c k. g.kept c (h.kept c k);
  only = λ c k. ⊎_elim
      (λ m. ⊎_elim (λ n. inl n) (λ n. inr ((n.0.0, n.0.1, (more n.0.0).1 (inl n.0.2), n.0.3, n.0.4), n.1)) (h.only c m))
      (λ m. inr ((e, m.0.0, (more e).1 (inr refl), m.0.1, m.0.2), m.1))
      (g.only c k);
  all = λ x f c k j a t. ⊎_elim
      (λ m. g.kept c (h.all x f c m j a t))
      (λ m. g.all f c j (subst (λ (z : Edge). CrossAt f z c) (sym m) a) t)
      ((more x).0 k);
}
  where
    more : (x : Edge) → Contains (take (i + 1) first) x ↔ (Contains (take i first) x ⊎ (e ≡ x))
    more x = in_take_more first i e below is x

-- others, crossed with the first lines, and with those behind them up to another place
pub both_behind : (rect : Rect) (first : List Edge) (lines : List Line) (from past : ℕ) (old found new : List Pt) → from ≤ past → from ≤ length lines → HasBothCrossed rect first (edges_of (take from lines)) old found → HasBothCrossed rect first (edges_of (slice_range lines from past)) found new
    → HasBothCrossed rect first (edges_of (take past lines)) old new
both_behind rect first lines from past old found new l within h g = subst (λ (es : List Edge). HasBothCrossed rect first es old new) (sym parts) (record {
  kept = λ c k. g.kept c (h.kept c k);
  only = λ c k. ⊎_elim
      (λ m. ⊎_elim (λ n. inl n) (λ n. inr ((n.0.0, n.0.1, n.0.2, Contains-append_left before few n.0.1 n.0.3, n.0.4), n.1)) (h.only c m))
      (λ n. inr ((n.0.0, n.0.1, n.0.2, Contains-append_right before few n.0.1 n.0.3, n.0.4), n.1))
      (g.only c k);
  all = λ e f c j k a t. ⊎_elim (λ m. g.kept c (h.all e f c j m a t)) (λ m. g.all e f c j m a t) (Contains-append_cases before few f k);
})
  where
    before : List Edge
    before = edges_of (take from lines)

    few : List Edge
    few = edges_of (slice_range lines from past)

    parts : edges_of (take past lines) ≡ edges_of (take from lines) ++ edges_of (slice_range lines from past)
    parts = ap edges_of (take_parts lines from past l within) ∙ map-append (λ (m : Line). m.edge) (take from lines) (slice_range lines from past)

pub both_first : (rect : Rect) (first : List Edge) (old : List Pt) → HasBothCrossed rect first [] old old
both_first rect first old = record { kept = λ c h. h; only = λ c h. inl h; all = λ e f c h k x t. absurd (none_in f k) }

pub found_beside : (rect : Rect) (lines others : List Line) (mid new : List Pt) → TakePart rect lines others → HasEndsToo rect (edges_of others) [] mid → HasBothCrossed rect (edges_of others) (edges_of lines) mid new → HasHot rect (edges_of lines) [] new
found_beside rect lines others mid new part h g = record { same = λ c. (to c, from c) }
  where
    among : (e : Edge) → Contains (edges_of others) e → Contains (edges_of lines) e
    among e k = let r = line_at others e k in subst (λ (x : Edge). Contains (edges_of lines) x) r.2 (edge_in lines r.0 (part.among r.0 r.1))

    to : (c : Pt) → Contains new c → Contains [] c ⊎ (IsHotFor (edges_of lines) c × IsIn rect c)
    to c k = ⊎_elim
        (λ m. ⊎_elim (λ n. inl n) (λ n. inr (inl (record { e = n.0.e; listed = among n.0.e n.0.listed; is_end = n.0.is_end }), n.1)) ((h.same c).0 m))
        (λ m. inr (inr (record { e = m.0.1; f = m.0.0; e_listed = m.0.3; f_listed = among m.0.0 m.0.2; crosses = m.0.4 }), m.1))
        (g.only c k)

    crossed : (e f : Edge) (c : Pt) → IsIn rect c → Contains (edges_of lines) e → Contains (edges_of lines) f → CrossAt e f c → Contains (edges_of others) e ⊎ Contains (edges_of others) f → Contains new c
    crossed e f c t i j x (inl k) = g.all e f c k j (cross_turn e f c x) t
    crossed e f c t i j x (inr k) = g.all f e c k i x t

    from : (c : Pt) → Contains [] c ⊎ (IsHotFor (edges_of lines) c × IsIn rect c) → Contains new c
    from c (inl k) = absurd (none_in c k)
    from c (inr (inl k, t)) = g.kept c ((h.same c).1 (inr (part.ends c t k, t)))
    from c (inr (inr k, t)) = crossed k.e k.f c t k.e_listed k.f_listed k.crosses (part.crossings k.e k.f c t k.e_listed k.f_listed k.crosses)
