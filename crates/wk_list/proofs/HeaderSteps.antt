-- The listing of headers step by step: a custom section, or a section and the custom sections behind it, and what comes behind them.
use Rattle.std.proofs.Common.{◌≡◌, ℕ, ◌+◌, ◌<◌, ◌≤◌, ◌==◌, false, List, ◌++◌, length, drop, get_or, slice_index_or, sym, ap, ◌∙◌, arith, append_assoc}
use Rattle.std.proofs.Common.{length-append}
use Rattle.std.specs.List.{flat_map}
use Rattle.wk_bytes.specs.Short.{short}
use Rattle.wk_bytes.specs.Frames.{limit}
use Rattle.wk_module.specs.declared.types.Custom.{Custom}
use Rattle.wk_module.specs.declared.types.Parts.{Parts}
use Rattle.wk_module.specs.Customs.{written_custom}
use Rattle.wk_module.specs.Sections.{of_number}
use Rattle.wk_module.specs.Writing.{section_of, customs_at, section_and_customs, ids, encoded, Fits}
use Rattle.wk_module.specs.WritingLaws.{length-framed}
use Rattle.wk_module.specs.WritingLaws.{drop-ids}
use Rattle.wk_list.specs.Headers.{placed, custom_frame, custom_header, customs_of, contents_start, header_by, headers_of}
use Rattle.wk_list.proofs.Walk.{length-ids, drop-of, drop-others, length-of}

-- ---- a custom section of the place

abbrev pub custom_text : ℕ → ℕ → ℕ → List Custom → List ℕ
custom_text place next i cs = placed custom_frame custom_header next (customs_of place (drop i cs))

-- the next one is of the place, and was gathered
pub custom_next : (place next i after : ℕ) (custom : Custom) (cs : List Custom) (t new : List ℕ) → i < length cs → custom ≡ get_or cs i custom
    → custom.place ≡ place → new ≡ t ++ custom_header next custom → after ≡ next + length (custom_frame custom)
    → t ++ custom_text place next i cs ≡ new ++ custom_text place after (i + 1) cs
custom_next place next i after custom cs t new within is same put behind =
    ap (λ (ds : List Custom). t ++ placed custom_frame custom_header next ds) (drop-of place i custom cs within is same)
    ∙ sym (ap (λ (r : List ℕ). r ++ custom_text place after (i + 1) cs) put ∙ append_assoc t (custom_header next custom) _
    ∙ ap (λ (n : ℕ). t ++ (custom_header next custom ++ custom_text place n (i + 1) cs)) behind)

-- where it ends
pub custom_end : (next start size after : ℕ) (custom : Custom) → start ≡ contents_start next size → size ≡ length (written_custom custom)
    → after ≡ start + size → after ≡ next + length (custom_frame custom)
custom_end next start size after custom is long sum =
    omega (arith, is, long, sum, ap (λ (n : ℕ). length (short n)) long, length-framed 0 (written_custom custom))

-- how long it is
pub custom_long : (i size : ℕ) (custom : Custom) (cs items : List Custom) → items ≡ cs → custom ≡ get_or items i custom
    → ((other : Custom) → size ≡ length (written_custom (slice_index_or cs i other)))
    → size ≡ length (written_custom custom)
custom_long i size custom cs items same is long = long custom
    ∙ ap (λ (d : Custom). length (written_custom d)) (sym (is ∙ ap (λ (ds : List Custom). get_or ds i custom) same))

-- it stays within the limit
pub custom_fits : (place next i whole : ℕ) (custom : Custom) (cs items : List Custom) → items ≡ cs → i < length items → custom ≡ get_or items i custom
    → custom.place ≡ place
    → next + length (customs_at place (drop i cs)) ≡ whole → whole ≤ limit → next + length (custom_frame custom) ≤ limit
custom_fits place next i whole custom cs items same within is here sum fits =
    let within_cs : i < length cs = omega (arith, within, ap length same) in
    omega (arith, length-of place i custom cs within_cs (is ∙ ap (λ (ds : List Custom). get_or ds i custom) same) here, sum, fits)

-- ---- a custom section of another place

pub custom_passed : (place next i : ℕ) (custom : Custom) (cs : List Custom) → i < length cs → custom ≡ get_or cs i custom → (custom.place == place) ≡ false
    → custom_text place next i cs ≡ custom_text place next (i + 1) cs
custom_passed place next i custom cs within is other = ap (placed custom_frame custom_header next) (drop-others place i custom cs within is other)

-- ---- a section, and the custom sections behind it

abbrev pub later : Parts → ℕ → ℕ → List ℕ
later m at id = placed (section_and_customs m) (headers_of m) at (drop id ids)

abbrev behind : Parts → ℕ → ℕ → List ℕ
behind m at id = placed custom_frame custom_header (at + length (section_of m id)) (customs_of id m.customs)

later_is : (m : Parts) (at id : ℕ) → id < 12 → later m at id
    ≡ header_by m at (of_number id) ++ (behind m at id ++ later m (at + length (section_and_customs m id)) (id + 1))
later_is m at id lt =
    ap (placed (section_and_customs m) (headers_of m) at) (drop-ids id lt)
    ∙ append_assoc (header_by m at (of_number id)) (behind m at id) (later m (at + length (section_and_customs m id)) (id + 1))

-- the line of the section was gathered, and the custom sections behind it come next
pub section_next : (m : Parts) (at id middle after : ℕ) (t between : List ℕ) → id < 12 → between ≡ t ++ header_by m at (of_number id)
    → middle ≡ at + length (section_of m id) → after ≡ middle + length (customs_at id m.customs)
    → t ++ later m at id ≡ (between ++ placed custom_frame custom_header middle (customs_of id m.customs)) ++ later m after (id + 1)
section_next m at id middle after t between lt put ends end =
    let end_m : after ≡ at + length (section_and_customs m id) = omega (arith, end, ends, length-append (section_of m id) (customs_at id m.customs)) in
    ap (λ (r : List ℕ). t ++ r) (later_is m at id lt) ∙ sym (append_assoc t (header_by m at (of_number id)) _)
    ∙ sym (append_assoc (t ++ header_by m at (of_number id)) (behind m at id) _)
    ∙ sym (ap (λ (r : List ℕ). (r ++ placed custom_frame custom_header middle (customs_of id m.customs)) ++ later m after (id + 1)) put
    ∙ ap (λ (n : ℕ). ((t ++ header_by m at (of_number id)) ++ placed custom_frame custom_header n (customs_of id m.customs)) ++ later m after (id + 1)) ends
    ∙ ap (λ (n : ℕ). ((t ++ header_by m at (of_number id)) ++ behind m at id) ++ later m n (id + 1)) end_m)

-- ---- they stay within the limit

pub section_fits : (m : Parts) (at id : ℕ) → id < 12 → at + length (flat_map (section_and_customs m) (drop id ids)) ≡ length (encoded m) → Fits m
    → at + length (section_of m id) ≤ limit
section_fits m at id lt place fits = omega (arith, length-ids m id lt, place, fits)

pub customs_fit : (m : Parts) (at id middle : ℕ) → id < 12 → at + length (flat_map (section_and_customs m) (drop id ids)) ≡ length (encoded m) → Fits m
    → middle ≡ at + length (section_of m id) → middle + length (customs_at id m.customs) ≤ limit
customs_fit m at id middle lt place fits ends = omega (arith, length-ids m id lt, place, fits, ends)

pub place_after : (m : Parts) (at id middle after : ℕ) → id < 12 → at + length (flat_map (section_and_customs m) (drop id ids)) ≡ length (encoded m)
    → middle ≡ at + length (section_of m id) → after ≡ middle + length (customs_at id m.customs)
    → after + length (flat_map (section_and_customs m) (drop (id + 1) ids)) ≡ length (encoded m)
place_after m at id middle after lt place ends end = omega (arith, length-ids m id lt, place, ends, end)
