use Rattle.std.proofs.Common.{◌∙◌, ◌≡◌, ℕ, ◌+◌, ◌++◌, ◌∷◌, [], List, ap, arith, drop, length, subst, sym, take}
use Rattle.std.proofs.Math.ListN.{set}
use Rattle.std.proofs.lemmas.List.{take_at}
use Rattle.geom.specs.declared.segment.Seg.{Seg}
use Rattle.distinct.specs.declared.copies.Copies.{Copies}
use Rattle.distinct.specs.Copies.{AreCopies}
use Rattle.distinct.specs.Kept.{AreKeptOf}
use Rattle.distinct.proofs.KeptLaws.{kept_added, kept_pushed}
use Rattle.distinct.proofs.keeping.keep.Goals as goal

pub returns-then-add_copy-clause-kept : goal.returns-then-add_copy-clause-kept
returns-then-add_copy-clause-kept g c = λ all h.
    let segments = c.args.segments.now in
    let copies = c.args.copies.now.items in
    let place = c.args.place in
    let s = c.index-segments-place.result in
    let more = c.add_copy.new.copies in
    let len : length more ≡ length copies = c.add_copy.ensures.len ∙ ap (λ (cs : List Copies). length cs) c.deref_mut.ensures.value in
    let written : take c.args.copies.now.len (more ++ drop (length more) copies) ≡ more = take_at more (drop (length more) copies) c.args.copies.now.len (omega (arith, len, c.args.copies.now.ok.0)) in
    let one_more = subst (λ (cs : List Copies). (before : List Seg) → AreCopies before (take (length cs) segments) cs → AreCopies (before ++ s ∷ []) (take (length cs) segments) more) c.deref_mut.ensures.value (c.add_copy.ensures.added c.if-add_copy.true) in
    subst (λ (cs : List Copies). AreKeptOf all (place + 1) segments cs) (sym written) (kept_added all segments place copies s c.requires.place c.index-segments-place.is h more len (one_more (take place all) h.kept))

pub returns-clause-kept : goal.returns-clause-kept
returns-clause-kept g c = λ all h.
    let segments = c.args.segments.now in
    let copies = c.args.copies.now.items in
    let place = c.args.place in
    let s = c.index-segments-place.result in
    let one = c.one.result in
    let left = c.add_copy.new.copies in
    let same : left ≡ copies = c.add_copy.ensures.same c.if-add_copy.false ∙ c.deref_mut.ensures.value in
    let len = ap (λ (cs : List Copies). length cs) same in
    let written : take c.args.copies.now.len (left ++ drop (length left) copies) ≡ left = take_at left (drop (length left) copies) c.args.copies.now.len (omega (arith, len, c.args.copies.now.ok.0)) in
    let pushed : c.push.new.self.items ≡ copies ++ one ∷ [] = subst (λ (cs : List Copies). c.push.new.self.items ≡ cs ++ one ∷ []) (written ∙ same) c.in_ok-push.ensures.items in
    let count : c.len-2.result ≡ length copies = omega (arith, c.len-2.ensures, c.args.copies.now.ok.0) in
    subst (λ (x : ℕ × List Copies). AreKeptOf all (place + 1) (set segments x.0 s) x.1) (λ i. (sym count i, sym pushed i))
    (kept_pushed all segments place copies s c.requires.place c.index-segments-place.is h one c.one.ensures.in_a c.one.ensures.in_b)
