-- The features of parts, put behind one another.
use Rattle.std.proofs.Common.{◌≡◌, ◌∙◌, ℕ, ◌+◌, List, [], ◌∷◌, ◌++◌, All, length, flat_map, map, append_assoc, length-append, refl, sym, ap, subst, arith}
use Rattle.std.specs.Prelude.{Vec}
use Rattle.std.proofs.lemmas.List.{append-nil}
use Rattle.std.proofs.lemmas.List.Elements.{All-head, All-tail}
use Rattle.std.proofs.lemmas.List.Concat.{flat_map-append}
use Rattle.geom.specs.declared.point.Pt.{Pt}
use Rattle.wkt.specs.declared.outline.Outline.{Outline}
use Rattle.wkt.specs.Features.{AreCut, AreOutlinedFeatures, all_rings, features_of}
use Rattle.wkt.specs.Outlines.{IsOutline}
use Rattle.wkt.proofs.Cuts.{cut_is, cut_more}

abbrev pub items_of : {M : Type 0} → List (Vec (List Pt) M) → List (List Pt)
items_of lists = flat_map (λ v. v.items) lists

abbrev pub features_in : List (Outline × List (List (List Pt))) → List (List (List Pt))
features_in parts = flat_map (λ part. part.1) parts

-- the features of the parts so far, with their rings, starts and outline, and the rest behind them
pub record SoFar {M : Type 0} (lists : List (Vec (List Pt) M)) (starts : List ℕ) (before : ℕ) (outline : Outline) (rest : List (Outline × List (List (List Pt)))) (all : List (List (List Pt))) : Type 0 where
  pub done : List (List (List Pt))
  pub cut : AreCut done (items_of lists) starts
  pub count : before ≡ length (items_of lists)
  pub outlined : IsOutline (items_of lists) outline
  pub others : All AreOutlinedFeatures rest
  pub same : done ++ features_in rest ≡ all

pub so_far_none : {M : Type 0} (lists : List (Vec (List Pt) M)) (starts : List ℕ) (outline : Outline) (rest parts : List (Outline × List (List (List Pt)))) → lists ≡ [] → starts ≡ [] → rest ≡ parts → IsOutline [] outline → All AreOutlinedFeatures parts
    → SoFar lists starts 0 outline rest (features_in parts)
so_far_none lists starts outline rest parts e f g is others = record {
  done = [];
  cut = subst (λ l. AreCut [] (items_of l) starts) (sym e) (record { all = refl; firsts = sym f });
  count = ap (λ l. length (items_of l)) (sym e);
  outlined = subst (λ l. IsOutline (items_of l) outline) (sym e) is;
  others = subst (All AreOutlinedFeatures) (sym g) others;
  same = ap features_in g;
}

-- one more part
pub so_far_more : {M : Type 0} (lists : List (Vec (List Pt) M)) (own : Vec (List Pt) M) (next : Outline) (features : List (List (List Pt))) (rest : List (Outline × List (List (List Pt)))) (all : List (List (List Pt)))
    (starts firsts shifted : List ℕ) (before : ℕ) (outline both : Outline)
    → SoFar lists starts before outline ((next, features) ∷ rest) all → AreCut features own.items firsts → shifted ≡ starts ++ map (λ s. s + before) firsts
    → ((rings more : List (List Pt)) → IsOutline rings outline → IsOutline more next → IsOutline (rings ++ more) both)
    → SoFar (lists ++ own ∷ []) shifted (before + length own.items) both rest all
so_far_more {M} lists own next features rest all starts firsts shifted before outline both h cut is joined = record {
  done = h.done ++ features;
  cut =
      subst (λ rings. AreCut (h.done ++ features) rings shifted) (sym more)
      (subst (λ s. AreCut (h.done ++ features) (items_of lists ++ own.items) s) (sym (is ∙ ap (λ (n : ℕ). starts ++ map (λ s. s + n) firsts) h.count))
      (cut_more h.done features (items_of lists) own.items starts firsts h.cut cut));
  count = ap (λ (n : ℕ). n + length own.items) h.count ∙ sym (length-append (items_of lists) own.items) ∙ ap (λ (l : List (List Pt)). length l) (sym more);
  outlined = subst (λ rings. IsOutline rings both) (sym more) (joined (items_of lists) own.items h.outlined own_is);
  others = All-tail AreOutlinedFeatures (next, features) rest h.others;
  same = append_assoc h.done features (features_in rest) ∙ h.same;
}
  where
    more : items_of (lists ++ own ∷ []) ≡ items_of lists ++ own.items
    more = flat_map-append (λ (v : Vec (List Pt) M). v.items) lists (own ∷ []) ∙ ap (λ rings. items_of lists ++ rings) (append-nil own.items)

    own_is : IsOutline own.items next
    own_is = subst (λ rings. IsOutline rings next) cut.all (All-head AreOutlinedFeatures (next, features) rest h.others)

no_more : {X : Type 0} (xs : List X) → length xs ≡ 0 → xs ≡ []
no_more [] e = refl
no_more (x ∷ xs) e = absurd (omega (arith, e))

-- all parts
pub so_far_all : {M : Type 0} (lists : List (Vec (List Pt) M)) (rings : List (List Pt)) (starts : List ℕ) (before : ℕ) (outline : Outline) (rest : List (Outline × List (List (List Pt)))) (all : List (List (List Pt)))
    → SoFar lists starts before outline rest all → length rest ≡ 0 → rings ≡ items_of lists → AreCut all rings starts × IsOutline (all_rings all) outline × (features_of rings starts ≡ all)
so_far_all lists rings starts before outline rest all h none e = (cut, subst (λ x. IsOutline x outline) (sym cut.all) (subst (λ x. IsOutline x outline) (sym e) h.outlined), cut_is all rings starts cut)
  where
    is : h.done ≡ all
    is = sym (append-nil h.done) ∙ ap (λ x. h.done ++ features_in x) (sym (no_more rest none)) ∙ h.same

    cut : AreCut all rings starts
    cut = subst (λ x. AreCut x rings starts) is (subst (λ x. AreCut h.done x starts) (sym e) h.cut)
