-- The nearest record of a line is the first, or the last, pixel of its part.
use Rattle.std.proofs.Common.{◌≡◌, ◌⊎◌, inl, inr, ℕ, suc, ◌≤◌, List, [], ◌∷◌, ◌++◌, cond, refl, sym, ap, ◌∙◌, subst, arith, length}
use Rattle.std.specs.Prelude.{Contains, None, Option, Some, ℤ, slice_get}
use Rattle.std.specs.List.{last_or}
use Rattle.std.proofs.lemmas.Bool.{cases_lt}
use Rattle.geom.specs.declared.point.Pt.{Pt}
use Rattle.geom.specs.declared.segment.Seg.{Seg}
use Rattle.geom.specs.Hot.{IsHot}
use Rattle.geom.specs.Route.{IsEarlier, Meets}
use Rattle.geom.proofs.Lists.{some_same}
use Rattle.routing.specs.declared.record.Record.{Record}
use Rattle.routing.specs.Steps.{steps_to}
use Rattle.routing.proofs.StepLaws.{earlier_from_steps, same_from_steps}
use Rattle.strips_law.specs.declared.line.Line.{Line}
use Rattle.strips_law.specs.declared.line.Open.{Open}
use Rattle.strips_law.specs.Strips.{IsInStrip, IsRouteIn, at_border, crosses, strip_at}
use Rattle.strips_law.proofs.Near.{first_is, last_is, none_is}
use Rattle.phases.specs.Records.{AreRecordsIn}
use Rattle.phases.specs.Nearest.{IsNearest, opens_at, pixel_of}
use Rattle.phases.specs.declared.nearest.Side.{Side}
use Rattle.phases.specs.declared.nearest.Side.TheVariants.{Left, Right}

module _ (cuts : List ℤ) (strip : ℕ) (segments : List Seg) (records : List Record) (has : AreRecordsIn (IsInStrip cuts strip) segments records) (k : ℕ) (s : Seg) (at : slice_get segments k ≡ Some s) (part : List Pt) (h : IsRouteIn (IsInStrip cuts strip) segments s part) where
  abbrev record_at : Pt → Record
  record_at c = record { segment = k; steps = steps_to s c; pixel = c }

  listed : (c : Pt) → IsHot segments c → Meets s c → IsInStrip cuts strip c → Contains records (record_at c)
  listed c hot met inside = (has.exact (record_at c)).1 (record { s = s; is_at = at; hot = hot; met = met; steps_are = refl }, inside)

  -- what a record of this line tells
  record Told (n : Record) : Type 0 where
    hot : IsHot segments n.pixel
    met : Meets s n.pixel
    inside : strip_at cuts n.pixel ≡ strip
    steps : n.steps ≡ steps_to s n.pixel

  told : (n : Record) → Contains records n → n.segment ≡ k → Told n
  told n m own =
      let (r, inside) = (has.exact n).0 m in
      let same : r.s ≡ s = some_same (subst (λ (j : ℕ). slice_get segments j ≡ Some r.s) own r.is_at) at in
      record { hot = r.hot; met = subst (λ (u : Seg). Meets u n.pixel) same r.met; inside = inside; steps = r.steps_are ∙ ap (λ (u : Seg). steps_to u n.pixel) same }

  no_pixel : (side : Side) → IsNearest side k records None → part ≡ []
  no_pixel side none = none_is (IsInStrip cuts strip) segments s part h (λ c hot met inside. none (record_at c) (listed c hot met inside) refl)

  by_steps : (c d : Pt) → Meets s c → Meets s d → steps_to s c ≤ steps_to s d → (d ≡ c) ⊎ IsEarlier s c d
  by_steps c d m n l = elim (cases_lt (steps_to s c) (steps_to s d)) [
    | inl less ↦ inr (earlier_from_steps s c d m n less)
    | inr more ↦ inl (same_from_steps s d c n m (omega (arith, l, more)))
  ]

  by_steps_back : (c d : Pt) → Meets s c → Meets s d → steps_to s d ≤ steps_to s c → (d ≡ c) ⊎ IsEarlier s d c
  by_steps_back c d m n l = elim (cases_lt (steps_to s d) (steps_to s c)) [
    | inl less ↦ inr (earlier_from_steps s d c n m less)
    | inr more ↦ inl (same_from_steps s d c n m (omega (arith, l, more)))
  ]

  pub is_front : (near : Option Record) → IsNearest Left k records near → pixel_of near ≡ slice_get part 0
  is_front None none = ap (λ (p : List Pt). slice_get p 0) (sym (no_pixel Left none))
  is_front (Some n) (m, t, least) =
      let i = told n m t in
      sym (first_is (IsInStrip cuts strip) segments s part h n.pixel i.hot i.met i.inside
      (λ d hot met inside. by_steps n.pixel d i.met met (subst (λ (j : ℕ). j ≤ steps_to s d) i.steps (least (record_at d) (listed d hot met inside) refl))))

  pub is_back : (near : Option Record) → IsNearest Right k records near → pixel_of near ≡ last_or None part
  is_back None none = ap (λ (p : List Pt). last_or None p) (sym (no_pixel Right none))
  is_back (Some n) (m, t, most) =
      let i = told n m t in
      sym (last_is (IsInStrip cuts strip) segments s part h n.pixel i.hot i.met i.inside
      (λ d hot met inside. by_steps_back n.pixel d i.met met (subst (λ (j : ℕ). steps_to s d ≤ j) i.steps (most (record_at d) (listed d hot met inside) refl))))

-- the lines that cross a border, with these pixels for theirs
pub opens_are : (cuts : List ℤ) (border : ℕ) (pick : List Pt → Option Pt) (lines : List Line) (nears : List (Option Record)) (parts : List (List Pt)) → length nears ≡ length lines → length parts ≡ length lines
    → ((k : ℕ) (near : Option Record) (part : List Pt) → slice_get nears k ≡ Some near → slice_get parts k ≡ Some part → pixel_of near ≡ pick part)
    → opens_at cuts border lines nears ≡ at_border cuts border (λ l part. record { number = l.number; layer = l.segment.layer; near = pick part }) lines parts
opens_are cuts border pick [] nears parts a b each = refl
opens_are cuts border pick (l ∷ ls) [] parts a b each = absurd (omega (arith, a))
opens_are cuts border pick (l ∷ ls) (n ∷ ns) [] a b each = absurd (omega (arith, b))
opens_are cuts border pick (l ∷ ls) (n ∷ ns) (p ∷ ps) a b each =
    ap (λ (o : Option Pt). cond (crosses cuts border l.segment) ((record { number = l.number; layer = l.segment.layer; near = o }) ∷ []) [] ++ opens_at cuts border ls ns) (each 0 n p refl refl)
    ∙ ap (λ (os : List Open). cond (crosses cuts border l.segment) ((record { number = l.number; layer = l.segment.layer; near = pick p }) ∷ []) [] ++ os)
    (opens_are cuts border pick ls ns ps (omega (arith, a)) (omega (arith, b)) (λ k near part at on. each (suc k) near part at on))
