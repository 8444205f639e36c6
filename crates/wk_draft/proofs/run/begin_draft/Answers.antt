use Rattle.std.proofs.Common.{refl}
use Rattle.wk_draft.specs.declared.draft.Draft.{Draft}
use Rattle.wk_draft.proofs.Drafting.{begun}
use Rattle.wk_draft.proofs.run.begin_draft.Goals as goal

pub returns : goal.returns
returns c = λ m is shaped valid room told.
    let d : Draft = record { session = c.args.draft.now.session; deferred = c.in_ok-deferred.deferred; shifts = c.in-Some.shifts } in
    begun c.laws_of_valid_modules.ensures.bodies m shaped valid c.parts-parts.result.now d c.len.result c.encoded_len.result c.args.room is
    c.parts-parts.ensures.value c.in-Some.ensures c.len.ensures c.in_ok-deferred.ensures c.encoded_len.ensures.value room (c.if-not-has_room.ensures refl)
