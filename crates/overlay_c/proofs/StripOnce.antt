-- What a list tells is told of one list alone.
use Rattle.std.proofs.Common.{◌≡◌, ℕ, List, [], ◌∷◌, ap, arith, refl}
use Rattle.std.proofs.Props.{props}
use Rattle.std.specs.Prelude.{◌≢◌, None, Option, Some}
use mathlib.Core.HLevel.{is_prop→PathP}
use Rattle.geom.specs.declared.point.Pt.{Pt}
use Rattle.geom.specs.declared.edge.Counted.{Counted}
use Rattle.geom.specs.declared.segment.Seg.{Seg}
use Rattle.geom.specs.declared.segment.Source.{Source}
use Rattle.geom.specs.declared.segment.Source.TheVariants.{A, B}
use Rattle.geom.proofs.Edges.{edge_path}
use Rattle.strips_law.specs.declared.line.Carried.{Carried}
use Rattle.strips_law.specs.declared.line.Line.{Line}
use Rattle.strips_law.specs.declared.line.Open.{Open}
use Rattle.overlay_c.specs.declared.strip_items.OverlayCarried.{OverlayCarried}
use Rattle.overlay_c.specs.declared.strip_items.OverlayCounted.{OverlayCounted}
use Rattle.overlay_c.specs.declared.strip_items.OverlayLine.{OverlayLine}
use Rattle.overlay_c.specs.declared.strip_items.OverlayOpen.{OverlayOpen}
use Rattle.overlay_c.specs.Strips.{IsToldOfOne, layer_number, told_carried, told_counted, told_line, told_near, told_open}

-- ---- lists
abbrev first_or : {Y : Type 0} → Y → List Y → Y
first_or d [] = d
first_or d (y ∷ ys) = y

abbrev rest : {Y : Type 0} → List Y → List Y
rest [] = []
rest (y ∷ ys) = ys

one_list_of : {X Y : Type 0} (told : X → Y) → ((x y : X) → told x ≡ told y → x ≡ y) → IsToldOfOne told
one_list_of told one [] [] e = refl
one_list_of told one [] (y ∷ ys) e = absurd (cc)
one_list_of told one (x ∷ xs) [] e = absurd (cc)
one_list_of told one (x ∷ xs) (y ∷ ys) e =
    let head : x ≡ y = one x y (ap (first_or (told x)) e) in
    let tail : xs ≡ ys = one_list_of told one xs ys (ap rest e) in
    λ i. head i ∷ tail i

-- ---- items
one_layer : (l m : Source) → layer_number l ≡ layer_number m → l ≡ m
one_layer A A e = refl
one_layer A B e = absurd (omega (arith, e))
one_layer B A e = absurd (omega (arith, e))
one_layer B B e = refl

one_point : (p q : Pt) → p.x ≡ q.x → p.y ≡ q.y → p ≡ q
one_point p q h k = λ i. record { x = h i; y = k i }

apart_prop : (a b : Pt) → IsProp (a ≢ b)
apart_prop a b = hlevel props

one_segment : (s t : Seg) → s.a ≡ t.a → s.b ≡ t.b → s.layer ≡ t.layer → s ≡ t
one_segment s t a b l = λ i. record { a = a i; b = b i; layer = l i; proper = is_prop→PathP (λ j. a j ≢ b j) (λ j. apart_prop (a j) (b j)) s.proper t.proper i }

one_line : (l m : Line) → told_line l ≡ told_line m → l ≡ m
one_line l m e =
    let n : l.number ≡ m.number = ap (λ (t : OverlayLine). t.number) e in
    let s : l.segment ≡ m.segment = one_segment l.segment m.segment
    (one_point l.segment.a m.segment.a (ap (λ (t : OverlayLine). t.ax) e) (ap (λ (t : OverlayLine). t.ay) e))
    (one_point l.segment.b m.segment.b (ap (λ (t : OverlayLine). t.bx) e) (ap (λ (t : OverlayLine). t.by) e))
    (one_layer l.segment.layer m.segment.layer (ap (λ (t : OverlayLine). t.layer) e)) in
    λ i. record { number = n i; segment = s i }

one_carried : (c d : Carried) → told_carried c ≡ told_carried d → c ≡ d
one_carried c d e =
    let n : c.number ≡ d.number = ap (λ (t : OverlayCarried). t.number) e in
    let p : c.pixel ≡ d.pixel = one_point c.pixel d.pixel (ap (λ (t : OverlayCarried). t.x) e) (ap (λ (t : OverlayCarried). t.y) e) in
    λ i. record { number = n i; pixel = p i }

one_counted : (c d : Counted) → told_counted c ≡ told_counted d → c ≡ d
one_counted c d e =
    let f : c.edge ≡ d.edge = edge_path c.edge d.edge
    (one_point c.edge.p d.edge.p (ap (λ (t : OverlayCounted). t.px) e) (ap (λ (t : OverlayCounted). t.py) e))
    (one_point c.edge.q d.edge.q (ap (λ (t : OverlayCounted). t.qx) e) (ap (λ (t : OverlayCounted). t.qy) e)) in
    let a : c.in_a ≡ d.in_a = ap (λ (t : OverlayCounted). t.in_a) e in
    let b : c.in_b ≡ d.in_b = ap (λ (t : OverlayCounted). t.in_b) e in
    λ i. record { edge = f i; in_a = a i; in_b = b i }

abbrev flag : OverlayOpen → ℕ
flag t = t.has_pixel

one_near : (m n k l : ℕ) (p q : Option Pt) → told_near m k p ≡ told_near n l q → (m ≡ n) × (k ≡ l) × (p ≡ q)
one_near m n k l None None e = (ap (λ (t : OverlayOpen). t.number) e, ap (λ (t : OverlayOpen). t.layer) e, refl)
one_near m n k l None (Some q) e = let f : 0 ≡ 1 = ap flag e in absurd (omega (arith, f))
one_near m n k l (Some p) None e = let f : 1 ≡ 0 = ap flag e in absurd (omega (arith, f))
one_near m n k l (Some p) (Some q) e =
    (ap (λ (t : OverlayOpen). t.number) e, ap (λ (t : OverlayOpen). t.layer) e, ap (λ (r : Pt). Some r) (one_point p q (ap (λ (t : OverlayOpen). t.x) e) (ap (λ (t : OverlayOpen). t.y) e)))

one_open : (o p : Open) → told_open o ≡ told_open p → o ≡ p
one_open o p e =
    let f = one_near o.number p.number (layer_number o.layer) (layer_number p.layer) o.near p.near e in
    let n : o.number ≡ p.number = f.0 in
    let l : o.layer ≡ p.layer = one_layer o.layer p.layer f.1 in
    let q : o.near ≡ p.near = f.2 in
    λ i. record { number = n i; layer = l i; near = q i }

pub lines_once : IsToldOfOne told_line
lines_once = one_list_of told_line one_line

pub opens_once : IsToldOfOne told_open
opens_once = one_list_of told_open one_open

pub carried_once : IsToldOfOne told_carried
carried_once = one_list_of told_carried one_carried

pub counted_once : IsToldOfOne told_counted
counted_once = one_list_of told_counted one_counted
