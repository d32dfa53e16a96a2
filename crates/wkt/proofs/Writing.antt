-- What the writer has written after one item more.
use Rattle.std.proofs.Common.{◌≡◌, ℕ, ◌+◌, ◌<◌, ◌≤◌, List, [], ◌∷◌, ◌++◌, length, take, drop, refl, sym, ap, subst, ◌∙◌, append_assoc, arith}
use Rattle.std.specs.Prelude.{All, codes, slice_index_or}
use Rattle.std.proofs.lemmas.List.{append-nil, take_more}
use Rattle.std.proofs.lemmas.Grind.{flat_map-append}
use Rattle.geom.specs.declared.point.Pt.{Pt}
use Rattle.geom.specs.Canonical.{Shape, written_rings}
use Rattle.geom.specs.Words.{pt_words}
use Rattle.wkt.specs.Readable.{IsReadable, IsShort}
use Rattle.wkt.specs.Canonical.{more_of, ring_text, polygon_text, multi_text}
use Rattle.wkt.proofs.Inside.{all_of, of_all, both_all}

-- ---- a list

pub more_of-take : {X : Type 0} (f : X → List ℕ) (xs : List X) (i : ℕ) (d : X) → i < length xs → more_of f (take (i + 1) xs) ≡ more_of f (take i xs) ++ 44 ∷ 32 ∷ f (slice_index_or xs i d)
more_of-take f xs i d lt =
    ap (more_of f) (take_more xs i d lt)
    ∙ flat_map-append (λ x. 44 ∷ 32 ∷ f x) (take i xs) (slice_index_or xs i d ∷ [])
    ∙ ap (λ (t : List ℕ). more_of f (take i xs) ++ t) (append-nil (44 ∷ 32 ∷ f (slice_index_or xs i d)))

-- a comma, a space and the next item
pub text_more : {X : Type 0} (f : X → List ℕ) (xs : List X) (i : ℕ) (d y : X) (front text comma new : List ℕ) → i < length xs → y ≡ slice_index_or xs i d
    → text ≡ front ++ more_of f (take i xs) → comma ≡ text ++ codes ", " → new ≡ comma ++ f y → new ≡ front ++ more_of f (take (i + 1) xs)
text_more f xs i d y front text comma new lt is e g h =
    h ∙ ap (λ (t : List ℕ). t ++ f y) (g ∙ ap (λ (t : List ℕ). t ++ codes ", ") e)
    ∙ append_assoc (front ++ more_of f (take i xs)) (codes ", ") (f y)
    ∙ append_assoc front (more_of f (take i xs)) (44 ∷ 32 ∷ f y)
    ∙ ap (λ (z : _). front ++ (more_of f (take i xs) ++ 44 ∷ 32 ∷ f z)) is
    ∙ ap (λ (t : List ℕ). front ++ t) (sym (more_of-take f xs i d lt))

pub all_more : {X : Type 0} (P : X → Type 0) (xs : List X) (i : ℕ) (d y : X) → i < length xs → y ≡ slice_index_or xs i d → All P (take i xs) → P y → All P (take (i + 1) xs)
all_more P xs i d y lt is h k =
    subst (All P) (ap (λ (z : _). take i xs ++ z ∷ []) is ∙ sym (take_more xs i d lt))
    (all_of P (take i xs ++ y ∷ []) (both_all P (take i xs) (y ∷ []) (of_all P (take i xs) h) (k, tt)))

pub rings_more : (P : List Pt → Type 0) (ps : List Shape) (i : ℕ) (d p : Shape) → i < length ps → p ≡ slice_index_or ps i d → All P (written_rings (take i ps)) → All P (p.shell ∷ p.holes) → All P (written_rings (take (i + 1) ps))
rings_more P ps i d p lt is h k =
    let rings : List (List Pt) = p.shell ∷ p.holes in
    subst (All P)
    (ap (λ (x : List (List Pt)). written_rings (take i ps) ++ x) (sym (append-nil rings))
    ∙ sym (flat_map-append (λ q. q.shell ∷ q.holes) (take i ps) (p ∷ []))
    ∙ ap written_rings (ap (λ (z : _). take i ps ++ z ∷ []) is ∙ sym (take_more ps i d lt)))
    (all_of P (written_rings (take i ps) ++ rings) (both_all P (written_rings (take i ps)) rings (of_all P (written_rings (take i ps)) h) (of_all P rings k)))

pub all_first : {X : Type 0} (P : X → Type 0) (x : X) (xs : List X) → P x → All P xs → All P (x ∷ xs)
all_first P x xs h k = all_of P (x ∷ xs) (h, of_all P xs k)

pub rings_first : (P : List Pt → Type 0) (p : Shape) (ps : List Shape) → All P (p.shell ∷ p.holes) → All P (written_rings ps) → All P (written_rings (p ∷ ps))
rings_first P p ps h k =
    let rings : List (List Pt) = p.shell ∷ p.holes in
    all_of P (rings ++ written_rings ps) (both_all P rings (written_rings ps) (of_all P rings h) (of_all P (written_rings ps) k))

-- ---- a ring

pub ring_pushed : (old : List ℕ) (ps : List Pt) (d : Pt) → 1 ≤ length ps
    → (((((old ++ 40 ∷ []) ++ pt_words (slice_index_or ps 0 d)) ++ more_of pt_words (drop 1 ps)) ++ more_of pt_words (take 1 ps)) ++ 41 ∷ []) ≡ old ++ ring_text ps
ring_pushed old [] d h = absurd (omega (arith, h))
ring_pushed old (p ∷ ps) d h =
    let a = pt_words p in
    let b = more_of pt_words ps in
    let c = more_of pt_words (p ∷ []) in
    append_assoc ((((old ++ 40 ∷ []) ++ a) ++ b)) c (41 ∷ [])
    ∙ append_assoc ((old ++ 40 ∷ []) ++ a) b (c ++ 41 ∷ [])
    ∙ append_assoc (old ++ 40 ∷ []) a (b ++ (c ++ 41 ∷ []))
    ∙ append_assoc old (40 ∷ []) (a ++ (b ++ (c ++ 41 ∷ [])))
    ∙ ap (λ (t : List ℕ). old ++ (40 ∷ (a ++ t))) (sym (append_assoc b c (41 ∷ [])) ∙ ap (λ (t : List ℕ). t ++ 41 ∷ []) (sym (flat_map-append (λ q. 44 ∷ 32 ∷ pt_words q) ps (p ∷ []))))

pub ring_readable : (ps : List Pt) → 3 ≤ length ps → All IsShort (take 1 ps) → All IsShort (drop 1 ps) → IsReadable ps
ring_readable [] l h k = absurd (omega (arith, l))
ring_readable (p ∷ ps) l h k = record { enough = l; short = all_of IsShort (p ∷ ps) ((of_all IsShort (p ∷ []) h).0, of_all IsShort ps k) }

-- ---- the line

pub line_pushed : (p : Shape) (ps : List Shape) (start first rest new : List ℕ) → start ≡ codes "MULTIPOLYGON (" → first ≡ start ++ polygon_text p → rest ≡ first ++ more_of polygon_text ps → new ≡ rest ++ codes ")\n"
    → new ≡ multi_text (p ∷ ps)
line_pushed p ps start first rest new s f r e =
    let a = polygon_text p in
    let b = more_of polygon_text ps in
    let front : List ℕ = codes "MULTIPOLYGON (" in
    e ∙ ap (λ (t : List ℕ). t ++ codes ")\n") (r ∙ ap (λ (t : List ℕ). t ++ b) (f ∙ ap (λ (t : List ℕ). t ++ a) s))
    ∙ append_assoc (front ++ a) b (41 ∷ 10 ∷ [])
    ∙ append_assoc front a (b ++ 41 ∷ 10 ∷ [])
    ∙ ap (λ (t : List ℕ). front ++ t) (ap (λ (t : List ℕ). a ++ t) (sym (append_assoc b (41 ∷ []) (10 ∷ []))) ∙ sym (append_assoc a (b ++ 41 ∷ []) (10 ∷ [])))

pub no_items : {X : Type 0} (xs : List X) → length xs ≡ 0 → xs ≡ []
no_items [] e = refl
no_items (x ∷ xs) e = absurd (omega (arith, e))
