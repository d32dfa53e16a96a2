-- The sweep over lines: what it has found so far.
use Rattle.std.proofs.Common.{◌≡◌, ◌⊎◌, inl, inr, ℕ, zero, suc, ◌+◌, ◌<◌, ◌≤◌, List, [], ◌∷◌, ◌++◌, Bool, true, false, cond, refl, sym, ◌∙◌, ap, arith, subst, length, get_or, take, drop, ◌↔◌, ⊎_elim}
use Rattle.std.proofs.Math.IntN.{ℤ}
use Rattle.std.specs.Prelude.{All, AllPairs, Contains, filter, ◌≤ℤ◌, ◌<ℤ◌, int_le, count_by}
use Rattle.std.proofs.Math.Seq.{drop-cons}
use Rattle.std.proofs.lemmas.Int.{ints, by_lt_z}
use Rattle.std.proofs.lemmas.List.{take_more, take-append-drop, length-drop, get_or-drop}
use Rattle.std.proofs.lemmas.List.Elements.{All-contains, Contains-append_left, Contains-push, Contains-push_cases, Contains-get_or}
use Rattle.std.proofs.lemmas.List.Sums.{sum_by_push, sum_by-take-le}
use Rattle.geom.specs.declared.point.Pt.{Pt}
use Rattle.geom.specs.declared.rect.Rect.{Rect}
use Rattle.geom.specs.declared.segment.Seg.{Seg}
use Rattle.geom.specs.declared.edge.Edge.{Edge}
use Rattle.geom.specs.Hot.{IsHot, CrossIn}
use Rattle.geom.specs.Hot.IsHot.{start, end, crossing}
use Rattle.geom.specs.Limit.{InLimit, AreInLimit}
use Rattle.geom.specs.Rounded.{IsEdgeBefore}
use Rattle.geom.proofs.Integers.{linear}
use Rattle.geom.proofs.Along.{Between, meets_box}
use Rattle.geom.proofs.Pixels.{piece, meets_in}
use Rattle.hot_region.specs.Lines.{IsLine, CrossAt, HasPushed, HasCrossed, HasAllCrossed}
use Rattle.hot_pixel.specs.Pairs.{lines_meet, line_pairs}
use Rattle.hot_pixel.specs.SegmentLines.{AreLines, HasEnds}
use Rattle.hot_region.specs.Rects.{IsIn}
use Rattle.hot_region.proofs.ListLaws.{in_cons, here, none_in, in_push, in_take_more, in_filter, head_pair}
use Rattle.hot_region.proofs.HotLaws.{first_meets, second_meets}
use Rattle.hot_region.proofs.LineLaws.{segment_of, cross_at}
use Rattle.hot_region.proofs.CrossingLaws.{crossing_of, cross_turn, not_itself, start_in, start_or_end, end_in}
use Rattle.hot_pixel.proofs.PairCounts.{count_filter, pairs_push}

-- ---- the ends of lines
abbrev IsEndIn : List Edge → Pt → Type 0
IsEndIn lines c = (e : Edge) × Contains lines e × ((e.p ≡ c) ⊎ (e.q ≡ c))

pub ends_none : (tile : Rect) → HasEnds tile [] []
ends_none tile = record { same = λ c. (λ h. absurd (none_in c h), λ h. absurd (none_in h.0.0 h.0.1)) }

pub ends_more : (tile : Rect) (lines : List Edge) (i : ℕ) (e : Edge) (old mid new : List Pt) → i < length lines → e ≡ get_or lines i e → HasEnds tile (take i lines) old → HasPushed tile e.p old mid → HasPushed tile e.q mid new → HasEnds tile (take (i + 1) lines) new
ends_more tile lines i e old mid new l is h f g = record { same = λ c. (to c, from c) }
  where
    more : (x : Edge) → Contains (take (i + 1) lines) x ↔ (Contains (take i lines) x ⊎ (e ≡ x))
    more x = in_take_more lines i e l is x

    here_e : Contains (take (i + 1) lines) e
    here_e = (more e).1 (inr refl)

    to : (c : Pt) → Contains new c → IsEndIn (take (i + 1) lines) c × IsIn tile c
    to c k = ⊎_elim
        (λ m. ⊎_elim (λ n. let r = (h.same c).0 n in ((r.0.0, (more r.0.0).1 (inl r.0.1), r.0.2), r.1)) (λ n. ((e, here_e, inl n.0), n.1)) ((f.same c).0 m))
        (λ n. ((e, here_e, inr n.0), n.1))
        ((g.same c).0 k)

    from : (c : Pt) → IsEndIn (take (i + 1) lines) c × IsIn tile c → Contains new c
    from c ((x, k, at), t) = ⊎_elim
        (λ m. (g.same c).1 (inl ((f.same c).1 (inl ((h.same c).1 ((x, m, at), t))))))
        (λ m. ⊎_elim
        (λ n. (g.same c).1 (inl ((f.same c).1 (inr (ap (λ (y : Edge). y.p) m ∙ n, t)))))
        (λ n. (g.same c).1 (inr (ap (λ (y : Edge). y.q) m ∙ n, t))) at)
        ((more x).0 k)

-- ---- lines that lie apart
apart : (a b c d x : ℤ) → a ≤ℤ b → c ≤ℤ d → b <ℤ c → Between a b x → Between c d x → ⊥
apart a b c d x h k l (inl (p, q)) (inl (r, s)) = omega (arith, linear)
apart a b c d x h k l (inl (p, q)) (inr (r, s)) = omega (arith, linear)
apart a b c d x h k l (inr (p, q)) (inl (r, s)) = omega (arith, linear)
apart a b c d x h k l (inr (p, q)) (inr (r, s)) = omega (arith, linear)

right_of : (e f : Edge) (c : Pt) → f.q.x <ℤ e.p.x → CrossAt f e c → ⊥
unfolding segment_of
right_of e f c far h =
    let x = crossing_of f e c h in
    let u = meets_box (piece (segment_of f)) c (meets_in (segment_of f) c (first_meets (segment_of f) (segment_of e) c x)) in
    let v = meets_box (piece (segment_of e)) c (meets_in (segment_of e) c (second_meets (segment_of f) (segment_of e) c x)) in
    apart f.p.x f.q.x e.p.x e.q.x c.x f.ordered.column e.ordered.column far u.0 v.0

-- ---- one pair: what `may_meet` says of segments on the two lines
pub pair_apart : (e f : Edge) (s t : Seg) → IsLine e s → IsLine f t → (b : Bool) → ((c : Pt) → CrossIn s t c → b ≡ true) → b ≡ false → (c : Pt) → CrossAt f e c → ⊥
pair_apart e f s t on_e on_f b h k c g = let m = h c ((cross_turn f e c g).cross s t on_e on_f) in cc

-- ---- the ticks of one line
cost_more : (e f : Edge) (others : List Edge) (i : ℕ) → i < length others → f ≡ get_or others i f → count_by (lines_meet e) (take (i + 1) others) ≡ count_by (lines_meet e) (take i others) + cond {A = ℕ} (lines_meet e f) 1 0
cost_more e f others i l is = ap (count_by (lines_meet e)) (take_more others i f l ∙ ap (λ (x : Edge). take i others ++ x ∷ []) (sym is)) ∙ sum_by_push (λ x. cond {A = ℕ} (lines_meet e x) 1 0) (take i others) f

pub cost_meets : (e f : Edge) (others : List Edge) (i first now after : ℕ) → i < length others → f ≡ get_or others i f → lines_meet e f ≡ true → now ≤ first + count_by (lines_meet e) (take i others) → after ≡ now + 1 → after ≤ first + count_by (lines_meet e) (take (i + 1) others)
cost_meets e f others i first now after l is h k g = let a = cost_more e f others i l is in let b : cond {A = ℕ} (lines_meet e f) 1 0 ≡ 1 = ap (λ (t : Bool). cond {A = ℕ} t 1 0) h in omega arith

pub cost_skips : (e f : Edge) (others : List Edge) (i first now : ℕ) → i < length others → f ≡ get_or others i f → now ≤ first + count_by (lines_meet e) (take i others) → now ≤ first + count_by (lines_meet e) (take (i + 1) others)
cost_skips e f others i first now l is k = let a = cost_more e f others i l is in omega arith

pub cost_all : (e : Edge) (others : List Edge) (i first now : ℕ) → now ≤ first + count_by (lines_meet e) (take i others) → now ≤ first + count_by (lines_meet e) others
cost_all e others i first now k = let a = sum_by-take-le (λ x. cond {A = ℕ} (lines_meet e x) 1 0) others i in omega arith

-- ---- the active lines
-- of the first i lines those that a later one may meet, and perhaps others
pub record AreActive (lines : List Edge) (i : ℕ) (active : List Edge) : Type 0 where
  pub among : (f : Edge) → Contains active f → Contains (take i lines) f
  pub others : (f : Edge) → Contains (take i lines) f → Contains active f ⊎ ((g : Edge) → Contains (drop i lines) g → f.q.x <ℤ g.p.x)
  pub few : (p : Edge → Bool) → count_by p active ≤ count_by p (take i lines)

pub active_none : (lines : List Edge) → AreActive lines 0 []
active_none lines = record { among = λ f h. h; others = λ f h. absurd (none_in f h); few = λ p. omega arith }

columns : (e f : Edge) → IsEdgeBefore e f → e.p.x ≤ℤ f.p.x
columns e f (inl h) = h.column
columns e f (inr (h, k)) = let i : e.p.x ≡ f.p.x = ap (λ (p : Pt). p.x) h in omega (arith, linear)

module _ (lines : List Edge) (i : ℕ) (e : Edge) (active kept : List Edge) (up : AllPairs IsEdgeBefore lines) (l : i < length lines) (is : e ≡ get_or lines i e) (h : AreActive lines i active) (cut : kept ≡ filter (λ f. int_le e.p.x f.q.x) active) where
  front : drop i lines ≡ e ∷ drop (suc i) lines
  front = drop-cons lines i e l ∙ ap (λ (x : Edge). x ∷ drop (suc i) lines) (sym is)

  still : (f : Edge) → Contains kept f ↔ (Contains active f × (int_le e.p.x f.q.x ≡ true))
  still f = subst (λ (fs : List Edge). Contains fs f ↔ (Contains active f × (int_le e.p.x f.q.x ≡ true))) (sym cut) (in_filter (λ (g : Edge). int_le e.p.x g.q.x) active f)

  later : (g : Edge) → Contains (drop (suc i) lines) g → e.p.x ≤ℤ g.p.x
  later g c =
      let in_all : Contains (e ∷ drop (suc i) lines) g = in_cons e (drop (suc i) lines) g c in
      let pairs : AllPairs IsEdgeBefore (e ∷ drop (suc i) lines) = subst (λ (es : List Edge). AllPairs IsEdgeBefore es) front (λ j k d a b. subst (λ (x : Edge). IsEdgeBefore x (get_or (drop i lines) k d)) (sym (get_or-drop i lines j d)) (subst (λ (x : Edge). IsEdgeBefore (get_or lines (i + j) d) x) (sym (get_or-drop i lines k d)) (up (i + j) (i + k) d (omega arith) (let m = length-drop i lines in omega arith)))) in
      columns e g (head_pair IsEdgeBefore e (drop (suc i) lines) g pairs c)

  -- every earlier line is kept, or lies to the left of this one and of all later ones
  pub kept_or_past : (f : Edge) → Contains (take i lines) f → Contains kept f ⊎ ((f.q.x <ℤ e.p.x) × ((g : Edge) → Contains (drop (suc i) lines) g → f.q.x <ℤ g.p.x))
  kept_or_past f c = ⊎_elim
      (λ a. by_lt_z f.q.x e.p.x (λ k. inr (k, λ g m. below k (later g m))) (λ k. inl ((still f).1 (a, le_true k))))
      (λ a. inr (a e (subst (λ (es : List Edge). Contains es e) (sym front) (here e (drop (suc i) lines))), λ g m. a g (subst (λ (es : List Edge). Contains es g) (sym front) (in_cons e (drop (suc i) lines) g m))))
      (h.others f c)
    where
      below : {x y z : ℤ} → x <ℤ y → y ≤ℤ z → x <ℤ z
      below {x} {y} {z} a b = omega (arith, linear)

      le_true : {x y : ℤ} → x ≤ℤ y → int_le x y ≡ true
      le_true {x} {y} a = sym (omega (arith, ints))

  pub kept_among : (f : Edge) → Contains kept f → Contains (take i lines) f
  kept_among f c = h.among f ((still f).0 c).0

  pub kept_few : (p : Edge → Bool) → count_by p kept ≤ count_by p (take i lines)
  kept_few p = let a = count_filter p (λ f. int_le e.p.x f.q.x) active in let b = h.few p in let c : count_by p kept ≡ count_by p (filter (λ f. int_le e.p.x f.q.x) active) = ap (count_by p) cut in omega arith

  longer : take (i + 1) lines ≡ take i lines ++ e ∷ []
  longer = take_more lines i e l ∙ ap (λ (x : Edge). take i lines ++ x ∷ []) (sym is)

  pub active_more : AreActive lines (i + 1) (kept ++ e ∷ [])
  active_more = record {
    among = λ f c. (in_take_more lines i e l is f).1 (⊎_elim (λ k. inl (kept_among f k)) (λ k. inr k) (Contains-push_cases kept e f c));
    others = λ f c. ⊎_elim
        (λ k. ⊎_elim (λ m. inl (in_push kept f e m)) (λ m. inr (λ g n. m.1 g (let same : i + 1 ≡ suc i = omega arith in subst (λ (j : ℕ). Contains (drop j lines) g) same n))) (kept_or_past f k))
        (λ k. inl (subst (λ (x : Edge). Contains (kept ++ e ∷ []) x) k (Contains-push kept e)))
        ((in_take_more lines i e l is f).0 c);
    few = λ p.
        let a = sum_by_push (λ x. cond {A = ℕ} (p x) 1 0) kept e in
        let b = sum_by_push (λ x. cond {A = ℕ} (p x) 1 0) (take i lines) e in
        let c = kept_few p in
        let d : count_by p (take (i + 1) lines) ≡ count_by p (take i lines ++ e ∷ []) = ap (count_by p) longer in
        omega arith;
  }

  -- the crossings found so far, and those of this line with the active ones
  pub all_more : (tile : Rect) (old found new : List Pt) → HasAllCrossed tile (take i lines) old found → HasCrossed tile e kept found new → HasAllCrossed tile (take (i + 1) lines) old new
  all_more tile old found new prev now = record {
    kept = λ c k. now.kept c (prev.kept c k);
    only = λ c k. ⊎_elim
        (λ m. ⊎_elim (λ n. inl n) (λ n. inr ((n.0.0, n.0.1, widen n.0.0 n.0.2, widen n.0.1 n.0.3, n.0.4), n.1)) (prev.only c m))
        (λ m. inr ((m.0.0, e, widen m.0.0 (kept_among m.0.0 m.0.1), own, m.0.2), m.1))
        (now.only c k);
    all = λ x y c j k a t. ⊎_elim
        (λ m. ⊎_elim (λ n. now.kept c (prev.all x y c m n a t)) (λ n. joined x c m (subst (λ (z : Edge). CrossAt x z c) (sym n) a) t) ((in_take_more lines i e l is y).0 k))
        (λ m. ⊎_elim
        (λ n. joined y c n (cross_turn e y c (subst (λ (z : Edge). CrossAt z y c) (sym m) a)) t)
        (λ n. absurd (not_itself (segment_of e) c (crossing_of e e c (subst (λ (z : Edge). CrossAt z e c) (sym m) (subst (λ (z : Edge). CrossAt x z c) (sym n) a)))))
        ((in_take_more lines i e l is y).0 k))
        ((in_take_more lines i e l is x).0 j);
  }
    where
      widen : (f : Edge) → Contains (take i lines) f → Contains (take (i + 1) lines) f
      widen f k = (in_take_more lines i e l is f).1 (inl k)

      own : Contains (take (i + 1) lines) e
      own = (in_take_more lines i e l is e).1 (inr refl)

      joined : (f : Edge) (c : Pt) → Contains (take i lines) f → CrossAt f e c → IsIn tile c → Contains new c
      joined f c k a t = ⊎_elim (λ m. now.all f c m a t) (λ m. absurd (right_of e f c m.0 a)) (kept_or_past f k)

  -- the ticks so far
  pub ticks_more : (first before after : ℕ) → before ≤ first + line_pairs (take i lines) → after ≤ before + count_by (lines_meet e) kept → after ≤ first + line_pairs (take (i + 1) lines)
  ticks_more first before after a b =
      let c = kept_few (lines_meet e) in
      let d : line_pairs (take (i + 1) lines) ≡ line_pairs (take i lines ++ e ∷ []) = ap line_pairs longer in
      let f = pairs_push (take i lines) e in
      omega arith

  -- what holds of each line holds of the kept ones
  pub kept_all : (P : Edge → Type 0) → All P lines → All P kept
  kept_all P all = λ k d m. let f = get_or kept k d in All-contains P lines f all (subst (λ (es : List Edge). Contains es f) (take-append-drop i lines) (Contains-append_left (take i lines) (drop i lines) f (kept_among f (Contains-get_or kept k d m))))

pub pairs_take : (n : ℕ) (es : List Edge) → line_pairs (take n es) ≤ line_pairs es
pairs_take zero es = omega arith
pairs_take (suc n) [] = omega arith
pairs_take (suc n) (e ∷ es) = let a = sum_by-take-le (λ x. cond {A = ℕ} (lines_meet e x) 1 0) es n in let b = pairs_take n es in omega arith

-- ---- all that was found
pub found_hot : (tile : Rect) (L : List Seg) (lines : List Edge) (ends found : List Pt) → AreLines L lines → HasEnds tile lines ends → HasAllCrossed tile lines ends found → (c : Pt) → Contains found c ↔ (IsHot L c × IsIn tile c)
found_hot tile L lines ends found are h g c = (to, λ k. from k.0 k.1)
  where
    to : Contains found c → IsHot L c × IsIn tile c
    to k = ⊎_elim
        (λ m. let r = (h.same c).0 m in let s = are.only r.0.0 r.0.1 in (start_or_end L r.0.0 s.0 c s.1 s.2 r.0.2, r.1))
        (λ m. let s = are.only m.0.0 m.0.2 in let t = are.only m.0.1 m.0.3 in (crossing s.0 t.0 s.1 t.1 (m.0.4.cross s.0 t.0 s.2 t.2), m.1))
        (g.only c k)

    from : IsHot L c → IsIn tile c → Contains found c
    from (start s k e) t = let x = are.all s k in g.kept c ((h.same c).1 ((x.0, x.1, start_in x.0 s c x.2 e), t))
    from (end s k e) t = let x = are.all s k in g.kept c ((h.same c).1 ((x.0, x.1, end_in x.0 s c x.2 e), t))
    from (crossing s u k m x) t = let y = are.all s k in let z = are.all u m in g.all y.0 z.0 c y.1 z.1 (cross_at y.0 z.0 s u c y.2 z.2 x) t

-- the lines keep the limits
pub lines_limit : (L : List Seg) (lines : List Edge) → ((s : Seg) → Contains L s → AreInLimit s.a s.b) → AreLines L lines → All (λ e. AreInLimit e.p e.q) lines
lines_limit L lines limits are = λ k d l. let e = get_or lines k d in let r = are.only e (Contains-get_or lines k d l) in by_ends e r.0 r.2 (limits r.0 r.1)
  where
    by_ends : (e : Edge) (s : Seg) → IsLine e s → AreInLimit s.a s.b → AreInLimit e.p e.q
    by_ends e s (inl (p, q)) h = record { a_in = subst InLimit (sym p) h.a_in; b_in = subst InLimit (sym q) h.b_in }
    by_ends e s (inr (p, q)) h = record { a_in = subst InLimit (sym p) h.b_in; b_in = subst InLimit (sym q) h.a_in }
