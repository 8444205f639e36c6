use Rattle.std.proofs.Common.{◌≡◌, ◌<◌, List, [], ◌∷◌, length, map, take, get_or, slice_index_or, Some, ap, sym, ◌∙◌, arith}
use Rattle.std.proofs.lemmas.List.{map-append}
use Rattle.std.proofs.lemmas.Option.{slice_get-get_or}
use Rattle.std.specs.declared.collections.BTreeSet.{BTreeSet}
use Rattle.std.proofs.Common.{Global}
use Rattle.wk_body.specs.declared.references.Ref.{Ref}
use Rattle.wk_module.specs.declared.types.Func.{Func}
use Rattle.wk_check.specs.Verdict.{func_verdict}
use Rattle.wk_pieces.specs.Pieces.{code_of}
use Rattle.wk_session.specs.Kept.{uses_of}
use Rattle.wk_session.proofs.Opening.{pushed}
use Rattle.wk_session.proofs.cache.entries_in.Goals.{then-not-is_written+in_ok-code_in_room+in_ok-push, else-not-is_written}
use Rattle.wk_session.proofs.cache.entries_in.Goals as goal

pub verdict_of-requires-clause-told : goal.verdict_of-requires-clause-told
verdict_of-requires-clause-told g c =
    let fs = c.args.funcs.now in
    let f = c.func-item.result in
    let i = c.loop-i.i in
    let within : i < length fs = omega (arith, c.loop-i-test.true, ap length c.as_slice-func-items.ensures) in
    let here : f ≡ get_or fs i f = rw c.as_slice-func-items.ensures at c.func-item.is in
    rw c.told_body.ensures (c.requires.told i f (slice_get-get_or fs i f within ∙ ap Some (sym here)))

pub loop-i-preserved : goal.loop-i-preserved
loop-i-preserved g c =
    let fs = c.args.funcs.now in
    let i = c.loop-i.i in
    let f = c.func-item.result in
    let so_far = c.loop-i.invariant in
    let within : i < length fs = omega (arith, ap length c.as_slice-func-items.ensures) in
    let at : f ≡ slice_index_or fs i f = c.func-item.is ∙ ap (λ (gs : List Func). slice_index_or gs i f) c.as_slice-func-items.ensures in
    let keys : BTreeSet Ref Global → List Ref = λ s. s.keys in
    let more = ap (map keys) c.in_ok-push-3.ensures.items ∙ map-append keys c.loop-i.refs.items (c.in_ok-found.found ∷ []) in
    record {
      verdicts = pushed (func_verdict (g.E.Env.answers c.args.env.now)) fs i f c.loop-i.verdicts.items c.push-in-loop-i.new.self.items
          c.in_ok-verdict.verdict within at so_far.verdicts c.in_ok-push-2.ensures.items c.in_ok-verdict.ensures.verdict;
      refs = pushed uses_of fs i f (map keys c.loop-i.refs.items)
          (map keys c.push-in-loop-i-2.new.self.items) c.in_ok-found.found.keys within at so_far.refs more (c.in_ok-found.ensures f (λ j. f.ty) (λ j. f.body));
      codes = elim c.if-not-is_written.branch [
        | then-not-is_written+in_ok-code_in_room+in_ok-push w ↦
            (let no = w.if-not-is_written.true in
            let before : c.loop-i.codes.items ≡ map code_of (take i fs) = rw no at so_far.codes in
            rw (no, w.codes-is) (pushed code_of fs i f c.loop-i.codes.items w.push.new.self.items w.in_ok-code_in_room.field-0 within at before
            w.in_ok-push.ensures.items w.in_ok-code_in_room.ensures.code))
        | else-not-is_written w ↦ (let yes = w.if-not-is_written.false in rw (yes, w.codes-is) (rw yes at so_far.codes))
      ];
      typed = omega (arith, c.in_ok-verdict.ensures.typed, so_far.typed);
      encoded = elim c.if-not-is_written.branch [
        | then-not-is_written+in_ok-code_in_room+in_ok-push w ↦ omega (arith, w.encoded-is, w.in_ok-code_in_room.ensures.made, so_far.encoded)
        | else-not-is_written w ↦ omega (arith, w.encoded-is, so_far.encoded)
      ];
    }
