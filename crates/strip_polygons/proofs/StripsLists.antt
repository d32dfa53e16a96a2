-- What is kept of ascending lists, and whether polygons are in lists.
use Rattle.std.proofs.Common.{◌≡◌, ◌⊎◌, inl, inr, List, [], ◌∷◌, refl, sym, ◌∙◌, ap, subst, ⊎_elim}
use Rattle.std.specs.Prelude.{AllPairs}
use Rattle.std.proofs.lemmas.List.Kept.{AllPairs-cons}
use Rattle.geom.specs.declared.point.Pt.{Pt}
use Rattle.geom.specs.Canonical.{Shape}
use Rattle.geom.specs.ListOrder.{IsListBefore}
use Rattle.geom.proofs.ListOrder.{list_before_itself, list_order, pairs_head, pairs_tail}
use Rattle.geom.proofs.Lists.{In}
use Rattle.geom.proofs.Owners.{all_in}
use Rattle.parts_law.proofs.Membership.{some_or_none}

-- ---- the elements that are kept, where each is kept or of another kind
module _ {X : Type 0} (Before : X → X → Type 0) (IsKept IsOther : X → Type 0) where
  pub record Kept (xs : List X) : Type 0 where
    pub list : List X
    pub ascending : AllPairs Before list
    pub only : (x : X) → In x list → In x xs × IsKept x
    pub each : (x : X) → In x xs → In x list ⊎ IsOther x

  pub kept : (xs : List X) → AllPairs Before xs → ((x : X) → In x xs → IsKept x ⊎ IsOther x) → Kept xs
  kept [] ascending tell = record { list = []; ascending = ascending; only = λ x i. absurd i; each = λ x i. absurd i }
  kept (x ∷ xs) ascending tell = by_head (tell x (inl refl)) (kept xs (pairs_tail Before x xs ascending) (λ y i. tell y (inr i)))
    where
      by_head : IsKept x ⊎ IsOther x → Kept xs → Kept (x ∷ xs)
      by_head (inl h) k = record {
        list = x ∷ k.list;
        ascending = AllPairs-cons Before x k.list (all_in (Before x) k.list (λ y i. pairs_head Before x xs ascending y (k.only y i).0)) k.ascending;
        only = λ y i. ⊎_elim (λ (e : x ≡ y). (inl e, subst IsKept e h)) (λ (j : In y k.list). let o = k.only y j in (inr o.0, o.1)) i;
        each = λ y i. ⊎_elim (λ (e : x ≡ y). inl (inl e)) (λ (j : In y xs). ⊎_elim (λ (m : In y k.list). inl (inr m)) (λ (o : IsOther y). inr o) (k.each y j)) i;
      }
      by_head (inr h) k = record {
        list = k.list;
        ascending = k.ascending;
        only = λ y i. let o = k.only y i in (inr o.0, o.1);
        each = λ y i. ⊎_elim (λ (e : x ≡ y). inr (subst IsOther e h)) (λ (j : In y xs). k.each y j) i;
      }

-- ---- polygons
-- the shell of p goes before that of q
abbrev pub HasShellBefore : Shape → Shape → Type 0
HasShellBefore p q = IsListBefore p.shell q.shell

one_list_or_two : (r s : List Pt) → (r ≡ s) ⊎ (¬ (r ≡ s))
one_list_or_two r s = by_order (list_order r s)
  where
    by_order : (r ≡ s) ⊎ (IsListBefore r s ⊎ IsListBefore s r) → (r ≡ s) ⊎ (¬ (r ≡ s))
    by_order (inl e) = inl e
    by_order (inr (inl h)) = inr (λ e. list_before_itself s (subst (λ (t : List Pt). IsListBefore t s) e h))
    by_order (inr (inr h)) = inr (λ e. list_before_itself s (subst (λ (t : List Pt). IsListBefore s t) e h))

-- a list has a polygon with the shell of p, or none
pub shell_in_or_not : (ps : List Shape) (p : Shape) → ((q : Shape) × In q ps × (q.shell ≡ p.shell)) ⊎ ((q : Shape) → In q ps → ¬ (q.shell ≡ p.shell))
shell_in_or_not ps p = some_or_none (λ (q : Shape). q.shell ≡ p.shell) (λ q. one_list_or_two q.shell p.shell) ps

-- polygons in order that have one shell are one
pub one_of_shell : (all : List Shape) → AllPairs HasShellBefore all → (p q : Shape) → In p all → In q all → p.shell ≡ q.shell → p ≡ q
one_of_shell [] h p q i j s = absurd i
one_of_shell (x ∷ xs) h p q (inl e) (inl f) s = sym e ∙ f
one_of_shell (x ∷ xs) h p q (inl e) (inr j) s = absurd (list_before_itself q.shell
    (subst (λ (r : List Pt). IsListBefore r q.shell) (ap (λ (t : Shape). t.shell) e ∙ s) (pairs_head HasShellBefore x xs h q j)))
one_of_shell (x ∷ xs) h p q (inr i) (inl f) s = absurd (list_before_itself p.shell
    (subst (λ (r : List Pt). IsListBefore r p.shell) (ap (λ (t : Shape). t.shell) f ∙ sym s) (pairs_head HasShellBefore x xs h p i)))
one_of_shell (x ∷ xs) h p q (inr i) (inr j) s = one_of_shell xs (pairs_tail HasShellBefore x xs h) p q i j s
