-- What a strip and those behind it tell of the border between them.
use Rattle.std.proofs.Common.{◌≡◌, ◌∙◌, inl, inr, ℕ, ◌+◌, List, [], ◌∷◌, ◌++◌, true, false, Bool, refl, sym, ap, subst, arith, ⊎_elim, length, map, get_or, None, Some, Option}
use Rattle.std.proofs.lemmas.Bool.{cases_eq, false≢true}
use Rattle.std.proofs.lemmas.List.{get_or-map, length-map}
use Rattle.std.specs.List.{AllZip, last_or}
use Rattle.std.specs.Prelude.{◌<◌, ◌≤◌, ◌≢◌, ℤ, AllPairs, Contains, IfSome, MatchOption, if◌then◌else◌, slice_get}
use Rattle.geom.specs.declared.edge.Edge.{Edge}
use Rattle.geom.specs.declared.point.Pt.{Pt}
use Rattle.geom.specs.declared.segment.Seg.{Seg}
use Rattle.geom.specs.declared.segment.Source.{Source}
use Rattle.geom.specs.declared.segment.Source.TheVariants.{A, B}
use Rattle.geom.specs.Hot.IsHot.{end}
use Rattle.geom.specs.Order.{IsBefore}
use Rattle.geom.specs.Rounded.{joins}
use Rattle.geom.specs.Segments.{neighbours, same_source}
use Rattle.geom.proofs.Lists.{In, contains_in, in_append, in_contains, in_map, map_in, some_passes}
use Rattle.geom.proofs.Steps.{joined}
use Rattle.hot_region.proofs.HotLaws.{meets_end}
use Rattle.hot_region.proofs.ListLaws.{here, none_in}
use Rattle.strips_law.specs.declared.line.Line.{Line}
use Rattle.strips_law.specs.declared.line.Open.{Open}
use Rattle.strips_law.specs.declared.line.Carried.{Carried}
use Rattle.strips_law.specs.Law.{StripsAreBridged}
use Rattle.strips_law.specs.Strips.{CarriesOn, IsFrom, IsInStrip, IsRouteIn, at_border, carried_pixel, crosses, first_pixel, line_steps, segments_of, step_over, steps_over, strip_at, with_first, with_last}
use Rattle.strips_law.proofs.Border.{Comes, Stands, border_ascends, comes, goes, line_listed, numbers_are, one_stands, part_of}
use Rattle.strips_law.proofs.Columns.{crosses_from, crosses_told, met_strips, strip_by_before}
use Rattle.strips_law.proofs.Edges.{in_if, one_is_made}
use Rattle.strips_law.proofs.Parts.{Oriented, RoutesIn, all_together, each_with, first_oriented, rest_oriented}
use Rattle.strips_law.proofs.Steps.{between, count_append, count_if, joining, last_listed, one_across}

-- ---- lists

head_same : {X : Type 0} (x y : X) (xs ys : List X) → x ∷ xs ≡ y ∷ ys → x ≡ y
head_same x y xs ys e = cc

tail_same : {X : Type 0} (x y : X) (xs ys : List X) → x ∷ xs ≡ y ∷ ys → xs ≡ ys
tail_same x y xs ys e = cc

never_more : {X : Type 0} (x : X) (xs : List X) → [] ≡ x ∷ xs → ⊥
never_more x xs e = cc

none_is_some : {X : Type 0} (x : X) → Some x ≡ None → ⊥
none_is_some x e = cc

some_is : {X : Type 0} (x y : X) → Some x ≡ Some y → x ≡ y
some_is x y e = cc

abbrev pair : ℕ → Option Pt → ℕ × Option Pt
pair n p = (n, p)

pair_same : (m n : ℕ) (p q : Option Pt) → m ≡ n → p ≡ q → pair m p ≡ pair n q
pair_same m n p q e f = ap (λ (k : ℕ). pair k p) e ∙ ap (λ (r : Option Pt). pair n r) f

first_listed : (ps : List Pt) (q : Pt) → slice_get ps 0 ≡ Some q → Contains ps q
first_listed [] q e = absurd (none_is_some q (sym e))
first_listed (p ∷ ps) q e = subst (λ (r : Pt). Contains (p ∷ ps) r) (some_is p q e) (here p ps)

numbers_carried : (carried : List Carried) → map (λ c. c.number) carried ≡ map (λ (x : ℕ × Option Pt). x.0) (map carried_pixel carried)
numbers_carried [] = refl
numbers_carried (c ∷ cs) = ap (λ ns. c.number ∷ ns) (numbers_carried cs)

none_added : (e : Edge) (t : Bool) (xs zs : List (Pt × Pt)) → joining e xs ≡ 0 → joining e ((if t then xs else []) ++ zs) ≡ joining e zs
none_added e true xs zs h = count_append (joins e) xs zs ∙ plain (joining e xs) (joining e zs) h
  where
    plain : (m n : ℕ) → m ≡ 0 → m + n ≡ n
    plain m n h = omega arith
none_added e false xs zs h = refl

module _ (cuts : List ℤ) (strip : ℕ) (segments : List Seg) where
  -- ---- the two sides of the border on the right

  -- the last pixel before the border lies in the strip, and the carried one behind it
  abbrev Sides : Open → Carried → Type 0
  Sides o c = IfSome o.near (λ p. strip_at cuts p ≡ strip) × (strip + 1 ≤ strip_at cuts c.pixel)

  one_side : (l : Line) (f b : List Pt) (c : Carried) → IsRouteIn (IsInStrip cuts strip) segments l.segment f → IsRouteIn (IsFrom cuts (strip + 1)) segments l.segment b → carried_pixel c ≡ first_pixel l b → Sides (with_last l f) c
  one_side l f b c h k e = (at (last_or None f) refl, ((k.exact c.pixel).0 (first_listed b c.pixel (sym (ap (λ (x : ℕ × Option Pt). x.1) e)))).2)
    where
      at : (o : Option Pt) → last_or None f ≡ o → IfSome o (λ p. strip_at cuts p ≡ strip)
      at None g = tt
      at (Some p) g = ((h.exact p).0 (last_listed f p g)).2

  sides : (ls : List Line) (fs bs : List (List Pt)) (carried : List Carried) → RoutesIn (IsInStrip cuts strip) segments ls fs → RoutesIn (IsFrom cuts (strip + 1)) segments ls bs
      → map carried_pixel carried ≡ at_border cuts (strip + 1) first_pixel ls bs → AllZip Sides (at_border cuts (strip + 1) with_last ls fs) carried
  sides [] fs bs [] h k e = tt
  sides [] fs bs (c ∷ cs) h k e = absurd (never_more (carried_pixel c) (map carried_pixel cs) (sym e))
  sides (l ∷ ls) [] bs carried h k e = absurd h
  sides (l ∷ ls) (f ∷ fs) [] carried h k e = absurd k
  sides (l ∷ ls) (f ∷ fs) (b ∷ bs) carried h k e = at (λ cs g. sides ls fs bs cs h.1 k.1 g) (crosses cuts (strip + 1) l.segment) carried e
    where
      at : ((cs : List Carried) → map carried_pixel cs ≡ at_border cuts (strip + 1) first_pixel ls bs → AllZip Sides (at_border cuts (strip + 1) with_last ls fs) cs)
          → (t : Bool) (cs : List Carried) → map carried_pixel cs ≡ (if t then first_pixel l b ∷ [] else []) ++ at_border cuts (strip + 1) first_pixel ls bs
          → AllZip Sides ((if t then with_last l f ∷ [] else []) ++ at_border cuts (strip + 1) with_last ls fs) cs
      at rest true [] g = absurd (never_more (first_pixel l b) (at_border cuts (strip + 1) first_pixel ls bs) g)
      at rest true (c ∷ cs) g = (one_side l f b c h.0 k.0 (head_same (carried_pixel c) (first_pixel l b) (map carried_pixel cs) (at_border cuts (strip + 1) first_pixel ls bs) g), rest cs (tail_same (carried_pixel c) (first_pixel l b) (map carried_pixel cs) (at_border cuts (strip + 1) first_pixel ls bs) g))
      at rest false cs g = rest cs g

  -- each step over the border has its ends on the two sides
  step_sides : (layer : Source) (os : List Open) (cs : List Carried) → AllZip Sides os cs → (step : Pt × Pt) → In step (steps_over layer os cs) → (strip_at cuts step.0 ≡ strip) × (strip + 1 ≤ strip_at cuts step.1)
  step_sides layer [] cs h step i = absurd i
  step_sides layer (o ∷ os) [] h step i = absurd h
  step_sides layer (o ∷ os) (c ∷ cs) h step i = ⊎_elim
      (λ j. one o.near h.0.0 (in_if (same_source o.layer layer) (step_over o.near c.pixel) step j))
      (λ j. step_sides layer os cs h.1 step j) (in_append (if same_source o.layer layer then step_over o.near c.pixel else []) (steps_over layer os cs) step i)
    where
      one : (near : Option Pt) → IfSome near (λ p. strip_at cuts p ≡ strip) → In step (step_over near c.pixel) → (strip_at cuts step.0 ≡ strip) × (strip + 1 ≤ strip_at cuts step.1)
      one None g j = absurd j
      one (Some p) g (inl e) = (subst (λ (s : Pt × Pt). strip_at cuts s.0 ≡ strip) e g, subst (λ (s : Pt × Pt). strip + 1 ≤ strip_at cuts s.1) e h.0.1)
      one (Some p) g (inr j) = absurd j

  edge_sides : (layer : Source) (os : List Open) (cs : List Carried) → AllZip Sides os cs → (e : Edge) → 0 < joining e (steps_over layer os cs) → (strip_at cuts e.p ≡ strip) × (strip + 1 ≤ strip_at cuts e.q)
  edge_sides layer os cs h e n =
      let found = some_passes (joins e) (steps_over layer os cs) n in
      let k = step_sides layer os cs h found.0 found.1 in ⊎_elim
      (λ t. (subst (λ (p : Pt). strip_at cuts p ≡ strip) t.0 k.0, subst (λ (p : Pt). strip + 1 ≤ strip_at cuts p) t.1 k.1))
      (λ t. absurd (never (strip_at cuts e.p) (strip_at cuts e.q) (strip_by_before cuts e.p e.q e.ordered) (subst (λ (p : Pt). strip_at cuts p ≡ strip) t.0 k.0) (subst (λ (p : Pt). strip + 1 ≤ strip_at cuts p) t.1 k.1)))
      (joined e found.0 found.2)
    where
      never : (m n : ℕ) → m ≤ n → n ≡ strip → strip + 1 ≤ m → ⊥
      never m n h k l = omega arith

  -- ---- edges across the border

  -- a line that doesn't cross the border has no step over it
  no_step_over : (s : Seg) (f b : List Pt) → IsBefore s.a s.b → IsRouteIn (IsInStrip cuts strip) segments s f → IsRouteIn (IsFrom cuts (strip + 1)) segments s b → crosses cuts (strip + 1) s ≡ false → between f b ≡ []
  no_step_over s f [] o h k e = refl
  no_step_over s [] (q ∷ b) o h k e = refl
  no_step_over s (p ∷ f) (q ∷ b) o h k e =
      let i = (h.exact p).0 (here p f) in
      let j = (k.exact q).0 (here q b) in
      absurd (false≢true (sym e ∙ crosses_from cuts (strip + 1) s (before (strip_at cuts s.a) (strip_at cuts p) (met_strips cuts s o p i.1).0 i.2) (behind (strip_at cuts q) (strip_at cuts s.b) j.2 (met_strips cuts s o q j.1).1)))
    where
      before : (m n : ℕ) → m ≤ n → n ≡ strip → m < strip + 1
      before m n h k = omega arith

      behind : (m n : ℕ) → strip + 1 ≤ m → m ≤ n → strip + 1 ≤ n
      behind m n h k = omega arith

  module _ (e : Edge) (p : strip_at cuts e.p ≡ strip) (q : strip + 1 ≤ strip_at cuts e.q) where
    to_carried : (l : Line) (f b : List Pt) (c : Carried) → carried_pixel c ≡ first_pixel l b → joining e (between f b) ≡ joining e (step_over (last_or None f) c.pixel)
    to_carried l f [] c g = absurd (none_is_some c.pixel (ap (λ (x : ℕ × Option Pt). x.1) g))
    to_carried l f (r ∷ b) c g = ap (λ (z : Pt). joining e (step_over (last_or None f) z)) (sym (some_is c.pixel r (ap (λ (x : ℕ × Option Pt). x.1) g)))

    counts_over : (layer : Source) (ls : List Line) (fs bs : List (List Pt)) (carried : List Carried) → Oriented ls → RoutesIn (IsInStrip cuts strip) segments ls fs → RoutesIn (IsFrom cuts (strip + 1)) segments ls bs
        → map carried_pixel carried ≡ at_border cuts (strip + 1) first_pixel ls bs → joining e (line_steps layer ls (each_with fs bs)) ≡ joining e (steps_over layer (at_border cuts (strip + 1) with_last ls fs) carried)
    counts_over layer [] fs bs carried o h k g = ap (λ (steps : List (Pt × Pt)). joining e steps) (nothing fs)
      where
        nothing : (fs : List (List Pt)) → line_steps layer [] (each_with fs bs) ≡ []
        nothing fs = refl
    counts_over layer (l ∷ ls) [] bs carried o h k g = absurd h
    counts_over layer (l ∷ ls) (f ∷ fs) [] carried o h k g = absurd k
    counts_over layer (l ∷ ls) (f ∷ fs) (b ∷ bs) carried o h k g = at (λ cs d. counts_over layer ls fs bs cs (rest_oriented l ls o) h.1 k.1 d) (crosses cuts (strip + 1) l.segment) refl carried g
      where
        across : joining e (neighbours (f ++ b)) ≡ joining e (between f b)
        across = one_across cuts strip segments e l.segment f b h.0 k.0 p q

        at : ((cs : List Carried) → map carried_pixel cs ≡ at_border cuts (strip + 1) first_pixel ls bs → joining e (line_steps layer ls (each_with fs bs)) ≡ joining e (steps_over layer (at_border cuts (strip + 1) with_last ls fs) cs))
            → (t : Bool) → crosses cuts (strip + 1) l.segment ≡ t → (cs : List Carried) → map carried_pixel cs ≡ (if t then first_pixel l b ∷ [] else []) ++ at_border cuts (strip + 1) first_pixel ls bs
            → joining e ((if same_source l.segment.layer layer then neighbours (f ++ b) else []) ++ line_steps layer ls (each_with fs bs)) ≡ joining e (steps_over layer ((if t then with_last l f ∷ [] else []) ++ at_border cuts (strip + 1) with_last ls fs) cs)
        at rest true c [] d = absurd (never_more (first_pixel l b) (at_border cuts (strip + 1) first_pixel ls bs) d)
        at rest true c (x ∷ cs) d = count_if e (same_source l.segment.layer layer) (neighbours (f ++ b)) (step_over (last_or None f) x.pixel) (line_steps layer ls (each_with fs bs)) (steps_over layer (at_border cuts (strip + 1) with_last ls fs) cs)
            (across ∙ to_carried l f b x (head_same (carried_pixel x) (first_pixel l b) (map carried_pixel cs) (at_border cuts (strip + 1) first_pixel ls bs) d))
            (rest cs (tail_same (carried_pixel x) (first_pixel l b) (map carried_pixel cs) (at_border cuts (strip + 1) first_pixel ls bs) d))
        at rest false c cs d = none_added e (same_source l.segment.layer layer) (neighbours (f ++ b)) (line_steps layer ls (each_with fs bs))
            (across ∙ ap (λ (steps : List (Pt × Pt)). joining e steps) (no_step_over l.segment f b (first_oriented l ls o) h.0 k.0 c)) ∙ rest cs d

  -- ---- what is carried on

  carried_on : (carried : List Carried) (ls : List Line) (fs bs : List (List Pt)) (next : List Carried) → RoutesIn (IsInStrip cuts strip) segments ls fs → RoutesIn (IsFrom cuts (strip + 1)) segments ls bs
      → ((l : Line) (b : List Pt) → Stands ls bs l b → (c : Carried) → Contains carried c → c.number ≡ l.number → Some c.pixel ≡ slice_get b 0)
      → AllZip (CarriesOn carried) (at_border cuts strip with_first ls fs) next → map carried_pixel next ≡ at_border cuts strip first_pixel ls (each_with fs bs)
  carried_on carried [] fs bs [] h k found z = refl
  carried_on carried [] fs bs (c ∷ cs) h k found z = absurd z
  carried_on carried (l ∷ ls) [] bs next h k found z = absurd h
  carried_on carried (l ∷ ls) (f ∷ fs) [] next h k found z = absurd k
  carried_on carried (l ∷ ls) (f ∷ fs) (b ∷ bs) next h k found z = at (λ cs y. carried_on carried ls fs bs cs h.1 k.1 (λ m d i. found m d (inr i)) y) (crosses cuts strip l.segment) next z
    where
      first : (f : List Pt) (c : Carried) → c.number ≡ l.number → MatchOption (slice_get f 0) (Contains carried c) (λ p. p ≡ c.pixel) → Some c.pixel ≡ slice_get (f ++ b) 0
      first [] c e m = found l b (inl (refl, refl)) c m e
      first (p ∷ ps) c e m = ap (λ (r : Pt). Some r) (sym m)

      at : ((cs : List Carried) → AllZip (CarriesOn carried) (at_border cuts strip with_first ls fs) cs → map carried_pixel cs ≡ at_border cuts strip first_pixel ls (each_with fs bs))
          → (t : Bool) (cs : List Carried) → AllZip (CarriesOn carried) ((if t then with_first l f ∷ [] else []) ++ at_border cuts strip with_first ls fs) cs
          → map carried_pixel cs ≡ (if t then first_pixel l (f ++ b) ∷ [] else []) ++ at_border cuts strip first_pixel ls (each_with fs bs)
      at rest true [] y = absurd y
      at rest true (c ∷ cs) y = ap (λ x. x ∷ map carried_pixel cs) (pair_same c.number l.number (Some c.pixel) (slice_get (f ++ b) 0) y.0.0 (first f c y.0.0 y.0.1)) ∙ ap (λ xs. first_pixel l (f ++ b) ∷ xs) (rest cs y.1)
      at rest false cs y = rest cs y

  -- what is carried of a line is the first pixel of its part
  first_carried : (ls : List Line) (bs : List (List Pt)) (carried : List Carried) → AllPairs (λ (l m : Line). l.number < m.number) ls → map carried_pixel carried ≡ at_border cuts (strip + 1) first_pixel ls bs
      → (l : Line) (b : List Pt) → Stands ls bs l b → (c : Carried) → Contains carried c → c.number ≡ l.number → Some c.pixel ≡ slice_get b 0
  first_carried ls bs carried up g l b i c j e =
      let k : In (carried_pixel c) (at_border cuts (strip + 1) first_pixel ls bs) = subst (λ (xs : List (ℕ × Option Pt)). In (carried_pixel c) xs) g (map_in carried_pixel carried c (contains_in carried c j)) in
      let x = comes cuts (strip + 1) first_pixel ls bs (carried_pixel c) k in
      let n : l.number ≡ x.line.number = sym e ∙ sym (ap (λ (y : ℕ × Option Pt). y.0) x.made) in
      sym (ap (λ (y : ℕ × Option Pt). y.1) x.made) ∙ sym (ap (λ (ps : List Pt). slice_get ps 0) (one_stands ls bs up l x.line b x.part i x.stands n))

  -- the end of a line is a pixel of its route
  has_end : (ls : List Line) (fs : List (List Pt)) → RoutesIn (IsInStrip cuts strip) segments ls fs → (l : Line) (f : List Pt) → Stands ls fs l f → Contains segments l.segment → strip_at cuts l.segment.b ≡ strip → Contains f l.segment.b
  has_end [] fs h l f s m e = absurd s
  has_end (n ∷ ns) [] h l f s m e = absurd h
  has_end (n ∷ ns) (g ∷ gs) h l f (inl s) m e =
      let r : IsRouteIn (IsInStrip cuts strip) segments l.segment f = subst (λ (v : Line). IsRouteIn (IsInStrip cuts strip) segments v.segment f) s.0 (subst (λ (w : List Pt). IsRouteIn (IsInStrip cuts strip) segments n.segment w) s.1 h.0) in
      (r.exact l.segment.b).1 (end l.segment m refl, meets_end l.segment l.segment.b refl, e)
  has_end (n ∷ ns) (g ∷ gs) h l f (inr s) m e = has_end ns gs h.1 l f s m e

  empty : (f : List Pt) → slice_get f 0 ≡ None → (c : Pt) → Contains f c → ⊥
  empty [] e c i = none_in c i
  empty (p ∷ f) e c i = none_is_some p e

  -- a line that crosses the border on the left and has no pixel in the strip crosses the border on the right too
  passes_over : (ls : List Line) (fs : List (List Pt)) → RoutesIn (IsInStrip cuts strip) segments ls fs → (x : Open) (y : Comes cuts strip with_first ls fs x) → Contains segments y.line.segment → x.near ≡ None → crosses cuts (strip + 1) y.line.segment ≡ true
  passes_over ls fs h x y m e =
      let t = crosses_told cuts strip y.line.segment y.crosses in
      let none : slice_get y.part 0 ≡ None = ap (λ (z : Open). z.near) y.made ∙ e in
      crosses_from cuts (strip + 1) y.line.segment (before (strip_at cuts y.line.segment.a) t.0) (⊎_elim
      (λ f. absurd (empty y.part none y.line.segment.b (has_end ls fs h y.line y.part y.stands m f)))
      (λ f. behind (strip_at cuts y.line.segment.b) t.1 f) (cases_eq (strip_at cuts y.line.segment.b) strip))
    where
      before : (m : ℕ) → m < strip → m < strip + 1
      before m h = omega arith

      behind : (n : ℕ) → strip ≤ n → (n ≡ strip → ⊥) → strip + 1 ≤ n
      behind n h f = omega arith

  -- and of each line that does a pixel is carried
  is_carried : (ls : List Line) (bs : List (List Pt)) (carried : List Carried) → RoutesIn (IsFrom cuts (strip + 1)) segments ls bs → map carried_pixel carried ≡ at_border cuts (strip + 1) first_pixel ls bs
      → (l : Line) → In l ls → crosses cuts (strip + 1) l.segment ≡ true → (c : Carried) × Contains carried c × (c.number ≡ l.number)
  is_carried ls bs carried h g l i t =
      let p = part_of (IsFrom cuts (strip + 1)) segments ls bs h l i in
      let j = goes cuts (strip + 1) first_pixel ls bs l p.0 p.1 t in
      let c = in_map carried_pixel carried (first_pixel l p.0) (subst (λ (xs : List (ℕ × Option Pt)). In (first_pixel l p.0) xs) (sym g) j) in
      (c.0, in_contains carried c.0 c.1, ap (λ (z : ℕ × Option Pt). z.0) c.2)

-- ---- the law

pub bridged : StripsAreBridged
bridged cuts strip lines inner left right carried o r k = record {
  same = ap (λ (os : List Open). map (λ x. x.number) os) r.right_is ∙ numbers_are cuts (strip + 1) with_last (λ x. x.number) (λ l part. refl) (IsInStrip cuts strip) segments lines r.parts r.are_parts
      ∙ sym (numbers_carried carried ∙ ap (λ (xs : List (ℕ × Option Pt)). map (λ x. x.0) xs) k.carried_is ∙ numbers_are cuts (strip + 1) first_pixel (λ x. x.0) (λ l part. refl) (IsFrom cuts (strip + 1)) segments lines k.parts k.are_parts);
  left_ascends = subst (λ (os : List Open). AllPairs (λ x y. x.number < y.number) os) (sym r.left_is) (border_ascends cuts strip with_first (λ x. x.number) (λ l part. refl) lines r.parts o.ascending);
  carried_ascends = carried_up;
  apart = all_apart right carried on_sides;
  passing = passing;
  across = λ across h. record {
    parts = together;
    are_parts = are_together;
    ascending = h.ascending;
    exact = λ c. (
      (λ i.
          let t = (h.exact c).0 i in
          let s = ⊎_elim (λ n. edge_sides cuts strip segments A right carried on_sides c.edge n) (λ n. edge_sides cuts strip segments B right carried on_sides c.edge n) (one_is_made _ _ c.in_a c.in_b t.0 t.1 t.2) in
          ((s.0, below (strip_at cuts c.edge.q) s.1), counts A c.edge s.0 s.1 ∙ t.0, counts B c.edge s.0 s.1 ∙ t.1, t.2)),
      (λ t. let q = above (strip_at cuts c.edge.q) t.0.1 in (h.exact c).1 (sym (counts A c.edge t.0.0 q) ∙ t.1, sym (counts B c.edge t.0.0 q) ∙ t.2, t.3)),
    );
  };
  goes_on = λ next z. record {
    parts = together;
    are_parts = are_together;
    carried_is = carried_on cuts strip segments carried lines r.parts k.parts next r.are_parts k.are_parts (first_carried cuts strip segments lines k.parts carried o.ascending k.carried_is)
        (subst (λ (os : List Open). AllZip (CarriesOn carried) os next) r.left_is z);
  };
}
  where
    segments : List Seg
    segments = segments_of lines

    below : (n : ℕ) → strip + 1 ≤ n → strip < n
    below n h = omega arith

    above : (n : ℕ) → strip < n → strip + 1 ≤ n
    above n h = omega arith

    together : List (List Pt)
    together = each_with r.parts k.parts

    are_together : RoutesIn (IsFrom cuts strip) segments lines together
    are_together = all_together cuts strip segments lines r.parts k.parts o.oriented r.are_parts k.are_parts

    on_sides : AllZip (Sides cuts strip segments) right carried
    on_sides = subst (λ (os : List Open). AllZip (Sides cuts strip segments) os carried) (sym r.right_is) (sides cuts strip segments lines r.parts k.parts carried r.are_parts k.are_parts k.carried_is)

    counts : (layer : Source) (e : Edge) → strip_at cuts e.p ≡ strip → strip + 1 ≤ strip_at cuts e.q → joining e (line_steps layer lines together) ≡ joining e (steps_over layer right carried)
    counts layer e p q = counts_over cuts strip segments e p q layer lines r.parts k.parts carried o.oriented r.are_parts k.are_parts k.carried_is ∙ ap (λ (os : List Open). joining e (steps_over layer os carried)) (sym r.right_is)

    carried_up : AllPairs (λ (c d : Carried). c.number < d.number) carried
    carried_up = λ i j d a b.
        let short : j < length (map carried_pixel carried) = subst (λ (n : ℕ). j < n) (sym (length-map carried carried_pixel)) b in
        let up : AllPairs (λ (x y : ℕ × Option Pt). x.0 < y.0) (map carried_pixel carried) = subst (λ (xs : List (ℕ × Option Pt)). AllPairs (λ (x y : ℕ × Option Pt). x.0 < y.0) xs) (sym k.carried_is) (border_ascends cuts (strip + 1) first_pixel (λ x. x.0) (λ l part. refl) lines k.parts o.ascending) in
        subst (λ (x : ℕ × Option Pt). x.0 < (get_or carried j d).number) (get_or-map carried_pixel carried i d (carried_pixel d) (omega arith))
        (subst (λ (y : ℕ × Option Pt). (get_or (map carried_pixel carried) i (carried_pixel d)).0 < y.0) (get_or-map carried_pixel carried j d (carried_pixel d) b) (up i j (carried_pixel d) a short))

    all_apart : (os : List Open) (cs : List Carried) → AllZip (Sides cuts strip segments) os cs → AllZip (λ (x : Open) (c : Carried). IfSome x.near (λ p. p ≢ c.pixel)) os cs
    all_apart [] [] h = tt
    all_apart [] (c ∷ cs) h = absurd h
    all_apart (x ∷ os) [] h = absurd h
    all_apart (x ∷ os) (c ∷ cs) h = (one x.near h.0.0, all_apart os cs h.1)
      where
        one : (near : Option Pt) → IfSome near (λ p. strip_at cuts p ≡ strip) → IfSome near (λ p. p ≢ c.pixel)
        one None g = tt
        one (Some p) g = λ e. never (strip_at cuts c.pixel) (subst (λ (q : Pt). strip_at cuts q ≡ strip) e g) h.0.1
          where
            never : (n : ℕ) → n ≡ strip → strip + 1 ≤ n → ⊥
            never n h k = omega arith

    -- a line that passes over the strip goes on behind it
    passing : (x : Open) → Contains left x → x.near ≡ None → (c : Carried) × Contains carried c × (c.number ≡ x.number)
    passing x i e = goes_past (comes cuts strip with_first lines r.parts x (subst (λ (os : List Open). In x os) r.left_is (contains_in left x i)))
      where
        same_number : (y : Comes cuts strip with_first lines r.parts x) (n : ℕ) → n ≡ y.line.number → n ≡ x.number
        same_number y n f = f ∙ ap (λ (z : Open). z.number) y.made

        goes_past : (y : Comes cuts strip with_first lines r.parts x) → (c : Carried) × Contains carried c × (c.number ≡ x.number)
        goes_past y =
            let l : In y.line lines = line_listed lines r.parts y.line y.part y.stands in
            let m : Contains segments y.line.segment = in_contains segments y.line.segment (map_in (λ (v : Line). v.segment) lines y.line l) in
            let t : crosses cuts (strip + 1) y.line.segment ≡ true = passes_over cuts strip segments lines r.parts r.are_parts x y m e in
            let c : (c : Carried) × Contains carried c × (c.number ≡ y.line.number) = is_carried cuts strip segments lines k.parts carried k.are_parts k.carried_is y.line l t in
            (c.0, c.1, same_number y c.0.number c.2)
