-- Codes that are written over those that were read.
use Rattle.std.proofs.Common.{◌≡◌, ℕ, ◌+◌, ◌-◌, ◌<◌, ◌≤◌, List, [], ◌∷◌, ◌++◌, length, take, drop, Result, Ok, Err, refl, sym, ap, ◌∙◌}
use Rattle.std.proofs.Common.{arith, append_assoc, length-append}
use Rattle.std.proofs.lemmas.List.{flat_map_more, take-append-drop}
use Rattle.std.specs.List.{between, flat_map}
use Rattle.wk_bytes.specs.declared.fault.ReadKind.{ReadKind}
use Rattle.wk_bytes.specs.declared.fault.ReadKind.TheVariants.{Memory, SectionSize}
use Rattle.wk_bytes.specs.declared.fault.ReadFault.{ReadFault}
use Rattle.wk_bytes.specs.Leb.{SpellsU}
use Rattle.wk_bytes.specs.LebLaws.{done}
use Rattle.wk_bytes.specs.Short.{short}
use Rattle.wk_bytes.specs.ShortLaws.{short-least}
use Rattle.wk_bytes.specs.Span.{Span, fault, piece_at, u32_at}
use Rattle.wk_bytes.specs.Stands.{StandsAt}
use Rattle.wk_body.specs.declared.types.Profile.{Profile}
use Rattle.wk_body.specs.Bodies.{BodyOf}
use Rattle.wk_body.specs.Reading.{all_body_at}
use Rattle.wk_body.specs.Reads.{FailsAs}
use Rattle.wk_body.specs.ReadsLaws.{fails_on}
use Rattle.wk_body.specs.Vectors.{items_at}
use Rattle.wk_body.specs.Written.{written_body}
use Rattle.wk_module.specs.Formats.{bytes_at, taking_all}
use Rattle.wk_module.specs.Items.{code_at, written_code}
use Rattle.wk_module.specs.WritingLaws.{short-rises}
use Rattle.wk_module.proofs.CodesApart.{code_by, code_not_taken, code_not_read}
use Rattle.wk_module.proofs.VectorReading.{with_front, nothing_before, goes_on, stops_all, failed, all_fails, is_done}
use Rattle.wk_strip.specs.declared.codes.Codes.{Codes}
use Rattle.wk_strip.specs.declared.codes.Place.{Place}
use Rattle.wk_strip.specs.Rewritten.{codes_in, IsTaken, IsRewritten, AreRewritten}
use Rattle.wk_strip.proofs.Over.{middle_is, over_len, untouched, over_more, between-len, between-rest}

-- ---- faults

by_kind : {A : Type 0} (e : ReadFault) (kind : ReadKind) (r : Result A ReadFault) (skipped from : List ℕ) → StandsAt kind skipped from
    → r ≡ Err e → FailsAs e kind r
by_kind e Memory r skipped from stands is = absurd stands
by_kind e _ r skipped from stands is = is

-- ---- a code is taken

both_taken : (end : ℕ) (bytes rest piece last : List ℕ) (size : ℕ) → u32_at end bytes ≡ Ok (size, rest) → piece_at size end rest ≡ Ok (piece, last)
    → bytes_at end bytes ≡ Ok (piece, last)
unfolding bytes_at
both_taken end bytes rest piece last size read taken = rw (read, taken) refl

pub is_taken : (b : List ℕ) (read end : ℕ) (front rest piece last : List ℕ) (size at : ℕ) → read ≤ end → end ≤ length b → SpellsU 32 front size
    → between read end b ≡ front ++ rest
    → u32_at end (between read end b) ≡ Ok (size, rest) → piece_at size end rest ≡ Ok (piece, last) → length piece ≡ size → rest ≡ piece ++ last
    → at + length rest ≡ end
    → IsTaken b read end (record { rest = piece; end = at + length piece })
is_taken b read end front rest piece last size at order within spelled parts sized taken len behind place =
    let all : length front + length rest ≡ end - read = sym (length-append front rest) ∙ ap length (sym parts) ∙ between-len b read end within in
    let both : length rest ≡ length piece + length last = ap length behind ∙ length-append piece last in
    let least : length (short size) ≤ length front = short-least 32 size front spelled in
    let whole : between read end b ≡ (front ++ piece) ++ last = parts ∙ ap (λ (b' : List ℕ). front ++ b') behind ∙ sym (append_assoc front piece last) in
    let next : at + length piece ≡ read + length (front ++ piece) = omega (arith, all, place, order, length-append front piece) in
    record {
      taken = both_taken end (between read end b) rest piece last size sized taken
          ∙ ap (λ (l : List ℕ). done (piece, l)) (between-rest b (front ++ piece) last read end (at + length piece) within order whole next);
      room = omega (arith, all, place, order, least, len, ap (λ (n : ℕ). length (short n)) len);
      within = omega (arith, place, both);
    }

-- ---- and written

-- the code that is written has room where the code was read
pub fits_there : (b : List ℕ) (from : Place) (code : Span) (n : ℕ) → IsTaken b from.read from.end code → n ≤ length code.rest → from.write ≤ from.read
    → from.write + length (short n) + n ≤ code.end
fits_there b from code n taken le behind = omega (arith, le, behind, taken.room, short-rises n (length code.rest) le)

pub is_rewritten : (profile : Profile) (old new : List ℕ) (from : Place) (code : Span) (body : BodyOf) (read write : ℕ) → from.end ≤ length old
    → from.write ≤ from.read → IsTaken old from.read from.end code
    → all_body_at profile code.end code.rest ≡ Ok body → length (written_body body) ≤ length code.rest → read ≡ code.end
    → write ≡ from.write + length (short (length (written_body body))) + length (written_body body)
    → new ≡ take from.write old ++ (written_code body ++ drop write old)
    → IsRewritten profile old new from (record { read = read; write = write; end = from.end })
is_rewritten profile old new from code body read write within behind taken is_body least read_is write_is bytes =
    let n = length (written_body body) in
    let len : length (between read from.end old) ≡ from.end - read = between-len old read from.end within in
    let rest : between code.end from.end old ≡ between read from.end old = ap (λ (i : ℕ). between i from.end old) (sym read_is) in
    record {
      body = body;
      read = code_by profile from.end (between from.read from.end old) (between read from.end old) code body
          (taken.taken ∙ ap (λ (l : List ℕ). done (code.rest, l)) rest) (omega (arith, len, taken.within, read_is)) is_body;
      written = omega (arith, write_is, length-append (short n) (written_body body));
      behind = omega (arith, write_is, read_is, fits_there old from code n taken least behind);
      order = omega (arith, read_is, taken.within);
      end = refl;
      bytes = bytes;
    }

pub not_taken : (profile : Profile) (end : ℕ) (bytes : List ℕ) (e : ReadFault) → FailsAs e e.kind (bytes_at end bytes)
    → FailsAs e e.kind (code_at profile end bytes)
not_taken profile end bytes e = fails_on e e.kind (bytes_at end bytes) (code_at profile end bytes) (code_not_taken profile end bytes e)

pub not_read : (profile : Profile) (b : List ℕ) (read end : ℕ) (code : Span) (e : ReadFault) → end ≤ length b → IsTaken b read end code
    → FailsAs e e.kind (all_body_at profile code.end code.rest) → FailsAs e e.kind (code_at profile end (between read end b))
not_read profile b read end code e within taken =
    let place : code.end ≡ end - length (between code.end end b) = omega (arith, between-len b code.end end within, taken.within) in
    fails_on e e.kind (all_body_at profile code.end code.rest) (code_at profile end (between read end b))
    (λ bad. code_not_read profile end (between read end b) (between code.end end b) code e taken.taken place bad)

-- ---- codes one after the other

-- Of the codes some were read and written. The bytes in front of them and those from where the next one will be written are as they were.
pub record AreUnderway (profile : Profile) (old now : List ℕ) (c : Codes) (counter : ℕ) (p : Place) : Type 0 where
  pub bodies : List BodyOf
  pub reads : with_front bodies (items_at (code_at profile) (c.count - counter) c.end (between p.read c.end old))
      ≡ items_at (code_at profile) c.count c.end (between c.first c.end old)
  pub bytes : now ≡ take c.first old ++ (flat_map written_code bodies ++ drop p.write old)
  pub write : p.write ≡ c.first + length (flat_map written_code bodies)
  pub behind : p.write ≤ p.read
  pub order : p.read ≤ c.end
  pub end : p.end ≡ c.end

too_many : {A : Type 0} (end : ℕ) (x : A) (rest : List ℕ) → 0 < length rest → taking_all end (x, rest) ≡ Err (fault SectionSize end rest)
too_many end x [] some = absurd (omega arith)
too_many end x (y ∷ rest) some = refl

module _ (profile : Profile) (old : List ℕ) (c : Codes) (first : c.first ≤ c.end) (within : c.end ≤ length old) where
  abbrev Read : ℕ → ℕ → Result (List BodyOf × List ℕ) ReadFault
  Read count from = items_at (code_at profile) count c.end (between from c.end old)

  some : c.first ≤ length old
  some = omega (arith, first, within)

  pub begun : AreUnderway profile old old c 0 (record { read = c.first; write = c.first; end = c.end })
  begun =
      let all : c.count - 0 ≡ c.count = omega arith in
      record {
        bodies = [];
        reads = ap (λ (n : ℕ). with_front [] (Read n c.first)) all ∙ nothing_before (Read c.count c.first);
        bytes = sym (take-append-drop c.first old);
        write = omega arith;
        behind = omega arith;
        order = first;
        end = refl;
      }

  module _ (now : List ℕ) (counter : ℕ) (p : Place) (u : AreUnderway profile old now c counter p) where
    abbrev Written : List ℕ
    Written = flat_map written_code u.bodies

    unread : (i : ℕ) → p.write ≤ i → between i c.end now ≡ between i c.end old
    unread i le = untouched old Written now c.first p.write some u.write u.bytes i c.end le

    here : code_at profile p.end (between p.read p.end now) ≡ code_at profile c.end (between p.read c.end old)
    here = ap (λ (e : ℕ). code_at profile e (between p.read e now)) u.end ∙ ap (λ (b : List ℕ). code_at profile c.end b) (unread p.read u.behind)

    -- one more
    pub one_more : (new : List ℕ) (q : Place) → counter < c.count → IsRewritten profile now new p q → AreUnderway profile old new c (counter + 1) q
    one_more new q lt m =
        let end : q.end ≡ c.end = m.end ∙ u.end in
        let forth : p.write ≤ q.write = omega (arith, m.written) in
        let rest : between q.read q.end now ≡ between q.read c.end old =
        ap (λ (e : ℕ). between q.read e now) end ∙ unread q.read (omega (arith, forth, m.behind)) in
        let read : code_at profile c.end (between p.read c.end old) ≡ Ok (m.body, between q.read c.end old) =
        sym here ∙ m.read ∙ ap (λ (b : List ℕ). done (m.body, b)) rest in
        let push : Written ++ written_code m.body ≡ flat_map written_code (u.bodies ++ m.body ∷ []) = flat_map_more written_code [] u.bodies m.body in
        record {
          bodies = u.bodies ++ m.body ∷ [];
          reads = sym (goes_on (code_at profile) u.bodies c.count counter c.end (between p.read c.end old) m.body (between q.read c.end old) lt read) ∙ u.reads;
          bytes = over_more old Written now c.first p.write some u.write u.bytes (written_code m.body) new q.write forth m.bytes
              ∙ ap (λ (b : List ℕ). take c.first old ++ (b ++ drop q.write old)) push;
          write = omega (arith, m.written, u.write, ap length push, length-append Written (written_code m.body));
          behind = m.behind;
          order = omega (arith, m.order, end);
          end = end;
        }

    -- one that is none
    pub stopped : (e : ReadFault) → counter < c.count → FailsAs e e.kind (code_at profile p.end (between p.read p.end now))
        → FailsAs e e.kind (codes_in profile old c)
    stopped e lt fails =
        let stop = stops_all (code_at profile) u.bodies c.count counter c.end (between p.read c.end old) e (Read c.count c.first) lt u.reads in
        fails_on e e.kind (code_at profile p.end (between p.read p.end now)) (codes_in profile old c)
        (λ bad. all_fails (items_at (code_at profile) c.count) c.end (between c.first c.end old) e (stop (sym here ∙ bad))) fails

    module _ (all : c.count ≤ counter) where
      read_all : Read c.count c.first ≡ Ok (u.bodies, between p.read c.end old)
      read_all = sym u.reads ∙ is_done (code_at profile) u.bodies c.count counter c.end (between p.read c.end old) all

      -- behind the last one their section ends
      pub ended : c.end ≤ p.read → AreRewritten profile old now c p.write
      ended le =
          let none : between p.read c.end old ≡ [] = let no : c.end - p.read ≡ 0 = omega (arith, le) in ap (λ (n : ℕ). take n (drop p.read old)) no in
          record {
            bodies = u.bodies;
            read = rw (read_all, none) refl;
            least = omega (arith, u.write);
            most = omega (
              arith,
              u.behind,
              u.order,
              within,
              over_len old Written now c.first p.write some u.write u.bytes
                  (omega (arith, u.behind, u.order, within)),
            );
            written = middle_is old Written now c.first p.write some u.write u.bytes;
          }

      -- or goes on
      pub left_over : p.read < c.end → codes_in profile old c ≡ Err (record { kind = SectionSize; at = p.read })
      left_over lt =
          let len : length (between p.read c.end old) ≡ c.end - p.read = between-len old p.read c.end within in
          let place : c.end - length (between p.read c.end old) ≡ p.read = omega (arith, len, lt) in
          rw read_all (too_many c.end u.bodies (between p.read c.end old) (omega (arith, len, lt))
          ∙ ap (λ (at : ℕ). let e : ReadFault = record { kind = SectionSize; at = at } in failed (List BodyOf) e) place)
