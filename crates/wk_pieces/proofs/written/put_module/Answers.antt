use Rattle.std.proofs.Common.{◌++◌, ℕ, List, refl, sym, ap, subst, ◌∙◌, arith}
use Rattle.std.proofs.lemmas.List.{take_all}
use Rattle.std.specs.List.{flat_map}
use Rattle.std.specs.Io.KnownBytes.{Appends}
use Rattle.wk_bytes.specs.Frames.{magic, version}
use Rattle.wk_bytes.specs.TakenLaws.{Appends-then}
use Rattle.wk_module.specs.Writing.{ids}
use Rattle.wk_pieces.specs.Recoded.{place_with}
use Rattle.wk_pieces.proofs.Putting.{fails_first, fails_later, form_first, form_more, form_split, place_within}
use Rattle.wk_pieces.proofs.written.put_module.Goals as goal

pub returns-in_err-put_all-clause-err : goal.returns-in_err-put_all-clause-err
returns-in_err-put_all-clause-err g c = fails_first _ _ _ _ _ _ c.in_err-put_all.ensures.err (form_first c.args.parts.now c.args.codes.now)

pub put_place-requires-clause-few : goal.put_place-requires-clause-few
put_place-requires-clause-few g c = omega (arith, c.requires.few, place_within c.args.parts.now c.args.codes.now c.loop-id.id (omega arith))

pub returns-in_err-put_place-clause-err : goal.returns-in_err-put_place-clause-err
returns-in_err-put_place-clause-err g c =
    let later = fails_first _ _ _ _ _ _ c.in_err-put_place.ensures.taken refl in
    fails_later _ _ _ _ _ _ _ c.loop-id.invariant.taken later (form_split c.args.parts.now c.args.codes.now c.loop-id.id (omega arith))

pub loop-id-preserved : goal.loop-id-preserved
loop-id-preserved g c =
    let more = form_more c.args.parts.now c.args.codes.now c.loop-id.id (omega arith) in
    record {
      taken = rw more (Appends-then _ _ _ _ _ c.loop-id.invariant.taken c.in_ok-put_place.ensures.taken);
      failures = rw c.in_ok-put_place.ensures.failures c.loop-id.invariant.failures;
    }

pub returns-clause-ok : goal.returns-clause-ok
returns-clause-ok g c =
    let f = place_with c.args.parts.now c.args.codes.now in
    let all = take_all c.loop-id.id ids (omega arith) in
    subst (λ (xs : List ℕ). Appends (g.W.Out.taken c.args.out.now) (g.W.Out.taken c.loop-id.out) xs)
    (ap (λ (is : List ℕ). (magic ++ version) ++ flat_map f is) all ∙ sym (form_first c.args.parts.now c.args.codes.now)) c.loop-id.invariant.taken
