-- What a scratch holds: tokens that are put together from left to right. These are the steps of the code, one for each of its
-- private functions; what is read is told without them, by `Reading` and `Spelling`.
use Rattle.std.specs.Prelude.{◌≡◌, ℕ, suc, ◌+◌, ◌≤◌, Bool, true, false, List, [], ◌∷◌, ◌++◌, length, map, reverse, Some, Result, Ok}
use Rattle.wk_bytes.specs.declared.fault.ReadFault.{ReadFault}
use Rattle.std.specs.List.{AllByRecursion}
use Rattle.wk_body.specs.declared.types.BlockType.{BlockType}
use Rattle.wk_body.specs.declared.types.BlockKind.{BlockKind}
use Rattle.wk_body.specs.declared.token.Token.{Token}
use Rattle.wk_body.specs.declared.scratch.Opened.{Opened}
use Rattle.wk_body.specs.declared.scratch.Opened.TheVariants as opened
use Rattle.wk_body.specs.declared.scratch.Scratch.{Scratch}
use Rattle.wk_bytes.specs.Span.{Span}
use Rattle.wk_body.specs.Instructions.{Plain, BrTable}
use Rattle.wk_body.specs.Tree.{Instrs, Tok, Simple, Open, OpenIf, Otherwise, Close, Part, flatten, tokens_of, before, over}
use Rattle.wk_body.specs.Reading.{after}
use Rattle.wk_body.specs.Kept.{all_told, tree_kept, IsWithin}

-- A block that is open, with the instructions that stand in front of it, and the first branch where the second is open.
pub data Frame : Type 0 where
  InBlock : (kind : BlockKind) (ty : BlockType) (front : Instrs) → Frame
  InThen : (ty : BlockType) (front : Instrs) → Frame
  InElse : (ty : BlockType) (front first : Instrs) → Frame

-- what is written of a frame
abbrev pub written_frame : Frame → List Tok
written_frame (InBlock kind ty front) = flatten front ++ Open kind ty 0 ∷ []
written_frame (InThen ty front) = flatten front ++ OpenIf ty 0 ∷ []
written_frame (InElse ty front first) = flatten front ++ OpenIf ty 0 ∷ (flatten first ++ Otherwise 0 ∷ [])

-- the frames are the innermost first
abbrev pub written_frames : List Frame → List Tok
written_frames [] = []
written_frames (f ∷ fs) = written_frames fs ++ written_frame f

abbrev pub place_of : ℕ → Frame → Opened
place_of n (InBlock kind ty front) = opened.Block (n + length (flatten front))
place_of n (InThen ty front) = opened.Then (n + length (flatten front))
place_of n (InElse ty front first) = opened.Else (n + length (flatten front)) (n + length (flatten front) + 1 + length (flatten first))

abbrev pub opened_of : List Frame → List Opened
opened_of [] = []
opened_of (f ∷ fs) = opened_of fs ++ place_of (length (written_frames fs)) f ∷ []

abbrev pub toks_of : Scratch → List Tok
toks_of b = all_told b.labels.items b.tokens.items

abbrev pub kind_of : Opened → Bool
kind_of (opened.Block place) = false
kind_of (opened.Then place) = true
kind_of (opened.Else place other) = false

-- of each open block, the innermost first, whether an else may still come
abbrev pub kinds_of : Scratch → List Bool
kinds_of b = reverse (map kind_of b.blocks.items)

abbrev pub size_of : Scratch → ℕ
size_of b = length b.tokens.items + length b.labels.items

-- the tokens are those of open blocks and of the instructions in the innermost
pub record Built (pool : List ℕ) (tokens : List Token) (open_now : List Opened) (frames : List Frame) (current : Instrs) : Type 0 where
  pub written : all_told pool tokens ≡ written_frames frames ++ flatten current
  pub places : open_now ≡ opened_of frames
  pub within : AllByRecursion (IsWithin (length pool)) tokens

pub record Good (b : Scratch) : Type 0 where
  pub frames : List Frame
  pub current : Instrs
  pub built : Built b.labels.items b.tokens.items b.blocks.items frames current

-- the new scratch has a token more
pub record Adds (old new : Scratch) (t : Tok) : Type 0 where
  pub good : Good new
  pub parts : (xs : List Part) → over (toks_of new) xs ≡ over (toks_of old) (before t xs)
  pub kinds : after t (kinds_of old) ≡ Some (kinds_of new)
  pub size : size_of new ≤ size_of old + 1

-- the new scratch has the end that closes no block
pub record Ends (old new : Scratch) : Type 0 where
  pub none : kinds_of old ≡ []
  pub written : toks_of new ≡ tokens_of (tree_kept new.labels.items new.tokens.items)
  pub within : AllByRecursion (IsWithin (length new.labels.items)) new.tokens.items
  pub parts : over (toks_of new) [] ≡ over (toks_of old) (before Close [])
  pub size : size_of new ≤ size_of old + 1

abbrev pub Closes : Bool → Scratch → Scratch → Type 0
Closes true old new = Ends old new
Closes false old new = Adds old new Close

abbrev pub IsSimple : Tok → Type 0
IsSimple t = (p : Plain) × (t ≡ Simple p)

-- a scratch whose innermost block was taken off its list
pub record GoodWith (b : Scratch) (o : Opened) : Type 0 where
  pub frames : List Frame
  pub current : Instrs
  pub built : Built b.labels.items b.tokens.items (b.blocks.items ++ o ∷ []) frames current

pub record AddsEnd (old new : Scratch) : Type 0 where
  pub good : Good new
  pub parts : (xs : List Part) → over (toks_of new) xs ≡ over (toks_of old) (before Close xs)
  pub blocks : new.blocks.items ≡ old.blocks.items
  pub size : size_of new ≤ size_of old + 1

-- labels at the end of the pool
pub record Labelled (old new : Scratch) (labels : List ℕ) : Type 0 where
  pub good : Good new
  pub toks : toks_of new ≡ toks_of old
  pub kinds : kinds_of new ≡ kinds_of old
  pub pool : new.labels.items ≡ old.labels.items ++ labels

-- a token more, read from so many bytes down to the rest
pub record Step (old new : Scratch) (t : Tok) (bytes rest : ℕ) : Type 0 where
  pub good : Good new
  pub parts : (xs : List Part) → over (toks_of new) xs ≡ over (toks_of old) (before t xs)
  pub kinds : after t (kinds_of old) ≡ Some (kinds_of new)
  pub size : size_of new + rest ≤ size_of old + bytes

-- what calls do that go on from the cursor `from` to the cursor `to`

pub record ReadsLabels (read : Result (List ℕ × List ℕ) ReadFault) (old new : Scratch) (from to : Span) : Type 0 where
  pub labels : List ℕ
  pub is : read ≡ Ok (labels, to.rest)
  pub same_end : to.end ≡ from.end
  pub labelled : Labelled old new labels
  pub size : length labels + length to.rest ≤ length from.rest

pub record ReadsPlain (read : Result ((List ℕ × ℕ) × List ℕ) ReadFault) (old new : Scratch) (from to : Span) : Type 0 where
  pub labels : List ℕ
  pub other : ℕ
  pub is : read ≡ Ok ((labels, other), to.rest)
  pub same_end : to.end ≡ from.end
  pub step : Step old new (Simple (BrTable labels other)) (suc (length from.rest)) (length to.rest)

abbrev pub Stepped : Bool → Scratch → Scratch → Tok → ℕ → ℕ → Type 0
Stepped true old new t bytes rest = Ends old new × (t ≡ Close)
Stepped false old new t bytes rest = Step old new t bytes rest

pub record ReadsToken (read : Result (Tok × List ℕ) ReadFault) (last : Bool) (old new : Scratch) (bytes end : ℕ) (to : Span) : Type 0 where
  pub token : Tok
  pub is : read ≡ Ok (token, to.rest)
  pub same_end : to.end ≡ end
  pub stepped : Stepped last old new token bytes (length to.rest)
