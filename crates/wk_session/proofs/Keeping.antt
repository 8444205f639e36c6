-- What is kept of a module is kept of it with its customs settled, which have no say in it but by their length; and what of it is kept of
-- functions is kept of a module with the same.
use Rattle.std.proofs.Common.{◌≡◌, ℕ, ◌+◌, ◌<◌, ◌^◌, Some, List, length, map, ap, sym, ◌∙◌, arith}
use Rattle.std.proofs.lemmas.List.{length-map}
use Rattle.wk_body.specs.Lengths.{limited}
use Rattle.wk_module.specs.declared.types.Custom.{Custom}
use Rattle.wk_module.specs.declared.types.Parts.{Parts}
use Rattle.wk_module.specs.Sections.{SectionId, contents, item_count}
use Rattle.wk_module.specs.Shape.{is_filled, lists_of, settle, IsFormed}
use Rattle.wk_module.specs.ShapeLaws.{settled_in_order}
use Rattle.wk_module.specs.Writing.{encoded, Fits}
use Rattle.wk_module.specs.WritingLaws.{length-encoded, length-encoded_settle, room}
use Rattle.wk_check.specs.SpacesLaws.{answers_of}
use Rattle.wk_check.specs.Verdict.{func_verdict}
use Rattle.wk_pieces.specs.Pieces.{code_of, codes_size, customs_size}
use Rattle.wk_session.specs.declared.cache.Cache.{Cache}
use Rattle.wk_session.specs.Judged.{AreKept}
use Rattle.wk_session.specs.Kept.{IsKept, uses_of}
use Rattle.wk_session.proofs.Outcomes.{told_fits}

-- a module that something is kept of is not too large
pub kept_fits : (m : Parts) (k : Cache) → IsKept m k → Fits m
kept_fits m k kept = told_fits m k.len kept.len

-- so each of its lists has room for one more item
pub room_kept : (m : Parts) (k : Cache) (id : SectionId) → IsKept m k → item_count id (contents (lists_of m) id) + 1 < 2 ^ 32
room_kept m k id kept = room m id (kept_fits m k kept)

-- settled custom sections have as many bytes
customs_settled : (m : Parts) → IsFormed m → customs_size m.customs ≡ customs_size (settle m).customs
customs_settled m formed =
    omega (
      arith,
      length-encoded_settle m formed.order,
      length-encoded m formed.order,
      length-encoded (settle m) (settled_in_order (is_filled m) 0 m.customs formed.order),
    )

-- with other customs all stays but for the length, and how many bytes they have
pub kept_with_customs : (m : Parts) (cs : List Custom) (k : Cache) (len size : ℕ) → IsKept m k
    → limited (length (encoded (record m { customs = cs }))) ≡ Some len → size ≡ customs_size cs
    → IsKept (record m { customs = cs }) (record k { len = len; pieces = record k.pieces { customs_len = size } })
kept_with_customs m cs k len size kept is sized = record {
  verdict = kept.verdict;
  len = is;
  types = kept.types;
  verdicts = kept.verdicts;
  refs = kept.refs;
  pieces = record {
    sections = kept.pieces.sections;
    codes = kept.pieces.codes;
    codes_len = kept.pieces.codes_len;
    customs_len = sized;
  };
}

pub kept_settled : (m : Parts) (k : Cache) → IsFormed m → IsKept m k → IsKept (settle m) k
kept_settled m k formed kept =
    kept_with_customs m (settle m).customs k k.len k.pieces.customs_len kept (ap limited (length-encoded_settle m formed.order) ∙ kept.len)
    (kept.pieces.customs_len ∙ customs_settled m formed)

-- as many sets of references and verdicts as functions
pub refs_count : (m : Parts) (k : Cache) → IsKept m k → length k.refs.items ≡ length m.funcs
refs_count m k kept = sym (length-map k.refs.items (λ s. s.keys)) ∙ ap length kept.refs ∙ length-map m.funcs uses_of

pub verdicts_count : (m : Parts) (k : Cache) → IsKept m k → length k.verdicts.items ≡ length m.funcs
verdicts_count m k kept = ap length kept.verdicts ∙ length-map m.funcs (func_verdict (answers_of m))

pub others_kept : (m n : Parts) (k : Cache) → n.funcs ≡ m.funcs → n.customs ≡ m.customs → IsKept m k → AreKept (answers_of m) n k
others_kept m n k funcs customs kept = record {
  types = kept.types ∙ ap (map (λ f. f.ty)) (sym funcs);
  verdicts = kept.verdicts ∙ ap (map (func_verdict (answers_of m))) (sym funcs);
  refs = kept.refs ∙ ap (map uses_of) (sym funcs);
  codes = kept.pieces.codes ∙ ap (map code_of) (sym funcs);
  codes_len = kept.pieces.codes_len ∙ ap codes_size (sym funcs);
  customs_len = kept.pieces.customs_len ∙ ap customs_size (sym customs);
}
