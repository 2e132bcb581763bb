-- What code in blocks does to the state and the stack that it finds, without places.
use Rattle.std.specs.Prelude.{ℕ, zero, suc, List, [], ◌∷◌, ◌++◌, length, Bool, true, false, not, ◌||◌, nat_lt, nat_eq, if◌then◌else◌, Option, Some, None, slice_set, slice_index_or}
use Rattle.std.specs.List.{list_any}
use Rattle.class_paths.specs.Paths.{Paths, insert_path}
use Rattle.sieve_meaning.specs.declared.run_fault.RunFault.{RunFault}
use Rattle.sieve_meaning.specs.declared.run_fault.RunFault.TheVariants.{ClassNotOpen}
use Rattle.sieve_meaning.specs.Case.{Facts}
use Rattle.sieve_meaning.specs.Truth.{has_field}
use Rattle.filing_table.specs.Machine.{Entry, T, L, N, comparison_holds, values_of}
use Rattle.filing_flow.specs.Structure.{Action, Push, Negate, ValuesOf, JoinTwo, MatchKey, Drop, HasField, PushSize, PushNumber, IsLess, IsMarked, SetMark, FileInto, SetKept, SetCancelled, End, Fail, CallTo, Flow, nothing, action, sequence, block, leave, leave_if}

-- the state of a run: that of the table machine without its place and its stack
pub record FlowState : Type 0 where
  -- the set of the paths that were filed
  pub filed : Paths
  pub kept : Bool
  pub cancelled : Bool
  -- whether each slot is set
  pub marks : List Bool

-- how code is left
pub data Exit : Type 0 where
  -- it comes to its end, with this stack
  FallsThrough : FlowState → List Entry → Exit
  -- it jumps to the end of the block around that has this number
  Leaves : ℕ → FlowState → List Entry → Exit
  -- the run ends, with or without a fault
  EndsRun : Option RunFault → FlowState → Exit
  -- an operand is missing, or the stack is deeper than 32
  Stuck : Exit

abbrev pub with_stack : FlowState → List Entry → Exit
with_stack f es = if nat_lt 32 (length es) then Stuck else FallsThrough f es

-- files under a path where it is open, and ends with a fault where it is not; 0 cancels the implicit keep, and 1 is a
-- copy (RFC 3894, section 3)
abbrev pub file_exit : Facts → FlowState → List Entry → ℕ → List ℕ → Exit
file_exit c f es a path = if c.is_open path
    then FallsThrough (record f { filed = insert_path path f.filed; cancelled = f.cancelled || nat_eq a 0 }) es
    else EndsRun (Some ClassNotOpen) f

-- what a call of the procedure with a number does to a state, on the empty stack
abbrev pub CallEffects : Type 0
CallEffects = ℕ → FlowState → Exit

-- where there are no procedures
abbrev pub no_calls : CallEffects
no_calls b f = Stuck

-- how a call is left: its procedure comes to its end with the empty stack, or ends the run
abbrev pub call_exit : Exit → Exit
call_exit (FallsThrough f []) = FallsThrough f []
call_exit (EndsRun e f) = EndsRun e f
call_exit _ = Stuck

abbrev pub action_effect : CallEffects → Facts → Action → FlowState → List Entry → Exit
action_effect called c (Push b) f es = with_stack f (T b ∷ es)
action_effect called c Negate f (T b ∷ es) = with_stack f (T (not b) ∷ es)
action_effect called c Negate f _ = Stuck
action_effect called c (ValuesOf name) f es = with_stack f (L (values_of c name) ∷ es)
action_effect called c JoinTwo f (L ys ∷ L xs ∷ es) = with_stack f (L (xs ++ ys) ∷ es)
action_effect called c JoinTwo f _ = Stuck
action_effect called c (MatchKey a key) f (L xs ∷ es) = with_stack f (T (list_any (comparison_holds a key) xs) ∷ L xs ∷ es)
action_effect called c (MatchKey a key) f _ = Stuck
action_effect called c Drop f (e ∷ es) = with_stack f es
action_effect called c Drop f _ = Stuck
action_effect called c (HasField name) f es = with_stack f (T (has_field c name) ∷ es)
action_effect called c PushSize f es = with_stack f (N c.size ∷ es)
action_effect called c (PushNumber n) f es = with_stack f (N n ∷ es)
action_effect called c IsLess f (N y ∷ N x ∷ es) = with_stack f (T (nat_lt x y) ∷ es)
action_effect called c IsLess f _ = Stuck
action_effect called c (IsMarked b) f es = with_stack f (T (slice_index_or f.marks b false) ∷ es)
action_effect called c (SetMark b) f es = FallsThrough (record f { marks = slice_set f.marks b true }) es
action_effect called c (FileInto a path) f es = file_exit c f es a path
action_effect called c SetKept f es = FallsThrough (record f { kept = true }) es
action_effect called c SetCancelled f es = FallsThrough (record f { cancelled = true }) es
action_effect called c End f es = EndsRun None f
action_effect called c (Fail fault) f es = EndsRun (Some fault) f
action_effect called c (CallTo b) f [] = call_exit (called b f)
action_effect called c (CallTo b) f _ = Stuck

abbrev pub and_then : Exit → (FlowState → List Entry → Exit) → Exit
and_then (FallsThrough f es) go = go f es
and_then (Leaves n f es) go = Leaves n f es
and_then (EndsRun e f) go = EndsRun e f
and_then Stuck go = Stuck

-- how a block is left: a jump to its end reaches its end
abbrev pub caught : Exit → Exit
caught (Leaves zero f es) = FallsThrough f es
caught (Leaves (suc n) f es) = Leaves n f es
caught (FallsThrough f es) = FallsThrough f es
caught (EndsRun e f) = EndsRun e f
caught Stuck = Stuck

-- pops the truth value on the top, and jumps where it is this one
abbrev pub jump_exit : Bool → ℕ → FlowState → List Entry → Exit
jump_exit true n f (T true ∷ es) = Leaves n f es
jump_exit true n f (T false ∷ es) = FallsThrough f es
jump_exit false n f (T true ∷ es) = FallsThrough f es
jump_exit false n f (T false ∷ es) = Leaves n f es
jump_exit _ n f _ = Stuck

abbrev pub effect : CallEffects → Facts → Flow → FlowState → List Entry → Exit
effect called c nothing f es = FallsThrough f es
effect called c (action o) f es = action_effect called c o f es
effect called c (sequence a b) f es = and_then (effect called c a f es) (effect called c b)
effect called c (block a) f es = caught (effect called c a f es)
effect called c (leave n) f es = Leaves n f es
effect called c (leave_if t n) f es = jump_exit t n f es
