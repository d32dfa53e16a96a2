-- Lists of borders, with their features.
use Rattle.std.proofs.Common.{◌≡◌, ◌⊎◌, inl, inr, ℕ, zero, suc, ◌<◌, List, [], ◌∷◌, map, refl, sym, ap, ◌∙◌, arith, subst, ⊎_elim, length, get_or, Some}
use Rattle.std.specs.Prelude.{IfSome, None, Option, slice_get}
use Rattle.std.specs.List.{AllPairs, Contains}
use Rattle.std.proofs.lemmas.List.{get_or-map, length-map}
use Rattle.std.proofs.lemmas.Option.{slice_get-get_or, slice_get_within}
use Rattle.geom.specs.declared.edge.Edge.{Edge}
use Rattle.geom.specs.EdgeOrder.{IsEdgeBefore}
use Rattle.geom.proofs.Lists.{some_same}
use Rattle.geom.proofs.Orders.{edge_before_itself}
use Rattle.cover_law.specs.Cover.{Bordered, bordered, edges_in}
use Rattle.cover_law.specs.declared.border.Border.{Border}

pub some_border : (bs : List Border) (n : ℕ) → n < length bs → Border
some_border [] n l = absurd (omega arith)
some_border (b ∷ bs) n l = b

pub edges_are : (fs : List ℕ) (bs : List Border) → edges_in (map (bordered fs) bs) ≡ map (λ b. b.edge) bs
edges_are fs [] = refl
edges_are fs (b ∷ bs) = ap (λ (es : List Edge). b.edge ∷ es) (edges_are fs bs)

pub inside : (fs : List ℕ) (bs : List Border) (e : Edge) → Contains (edges_in (map (bordered fs) bs)) e → Contains (map (λ b. b.edge) bs) e
inside fs bs e h = subst (λ (es : List Edge). Contains es e) (edges_are fs bs) h

at : (fs : List ℕ) (bs : List Border) (k : ℕ) (d : Border) → k < length bs → get_or (map (bordered fs) bs) k (bordered fs d) ≡ bordered fs (get_or bs k d)
at fs bs k d l = get_or-map (bordered fs) bs k d (bordered fs d) l

pub ascending : (fs : List ℕ) (bs : List Border) → AllPairs (λ b c. IsEdgeBefore b.edge c.edge) (map (bordered fs) bs) → AllPairs (λ b c. IsEdgeBefore b.edge c.edge) bs
ascending fs bs h i j d l m = subst (λ (b : Bordered). IsEdgeBefore b.edge (get_or bs j d).edge) (at fs bs i d (omega arith))
    (subst (λ (c : Bordered). IsEdgeBefore (get_or (map (bordered fs) bs) i (bordered fs d)).edge c.edge) (at fs bs j d m)
    (h i j (bordered fs d) l (let e = length-map bs (bordered fs) in omega arith)))

pub border_at : (fs : List ℕ) (bs : List Border) (k : ℕ) (d : Border) → k < length bs → slice_get (map (bordered fs) bs) k ≡ Some (bordered fs (get_or bs k d))
border_at fs bs k d l = slice_get-get_or (map (bordered fs) bs) k (bordered fs d) (let e = length-map bs (bordered fs) in omega arith) ∙ ap Some (at fs bs k d l)

pub border_within : (fs : List ℕ) (bs : List Border) (k : ℕ) (b : Bordered) → slice_get (map (bordered fs) bs) k ≡ Some b → k < length bs
border_within fs bs k b h = let l = slice_get_within (map (bordered fs) bs) k b h in let e = length-map bs (bordered fs) in omega arith

pub border_is : (fs : List ℕ) (bs : List Border) (k : ℕ) (b : Bordered) (d : Border) → slice_get (map (bordered fs) bs) k ≡ Some b → b ≡ bordered fs (get_or bs k d)
border_is fs bs k b d h = some_same h (border_at fs bs k d (border_within fs bs k b h))

-- ---- ascending borders: an edge has one number
pub unequal : (m n : ℕ) → (m ≡ n) ⊎ ((m < n) ⊎ (n < m))
unequal zero zero = inl refl
unequal zero (suc n) = inr (inl (omega arith))
unequal (suc m) zero = inr (inr (omega arith))
unequal (suc m) (suc n) = ⊎_elim (λ e. inl (ap suc e)) (λ o. inr (⊎_elim (λ l. inl (omega arith)) (λ l. inr (omega arith)) o)) (unequal m n)

pub never : (e f : Edge) → e ≡ f → IsEdgeBefore e f → ⊥
never e f q h = edge_before_itself f (subst (λ (x : Edge). IsEdgeBefore x f) q h)

pub one_number : (bs : List Border) → AllPairs (λ b c. IsEdgeBefore b.edge c.edge) bs → (m n : ℕ) (d : Border) → m < length bs → n < length bs → (get_or bs m d).edge ≡ (get_or bs n d).edge → m ≡ n
one_number bs up m n d k l q = ⊎_elim (λ e. e)
    (λ o. ⊎_elim (λ a. absurd (never (get_or bs m d).edge (get_or bs n d).edge q (up m n d a l))) (λ a. absurd (never (get_or bs n d).edge (get_or bs m d).edge (sym q) (up n m d a k))) o) (unequal m n)

pub inside_some : (fs : List ℕ) (bs : List Border) (o : Option Edge) → IfSome o (λ f. Contains (edges_in (map (bordered fs) bs)) f) → IfSome o (λ f. Contains (map (λ b. b.edge) bs) f)
inside_some fs bs None h = tt
inside_some fs bs (Some f) h = inside fs bs f h
