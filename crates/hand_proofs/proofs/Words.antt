-- The words that a walk is written in, from the toolchain's libraries and from this crate, under one name.
pub use mathlib.Core.Path.{◌≡◌, refl, sym, ◌∙◌, ap, subst}
pub use mathlib.Core.List.{List, [], ◌∷◌, ◌++◌}
pub use mathlib.Core.Bool.{Bool, true, false, not}
pub use Prim.Native.Nat.{ℕ, ◌+◌, ◌-◌, ◌*◌, ◌<◌, ◌≤◌, ◌^◌}
pub use seplogic.Ra.Ura.{Ura}
pub use base.Fraction.{full_share}
pub use mir.Syntax.{Ty, named, erased, w64, ty_bool, ty_ptr}
pub use mir.Val.{Val, vbool, vint, vunit}
pub use base.Logic.{SProp, ent, emp, via, id⊢}
pub use base.Fml.{Lft, Fml, fat, froom}
pub use prog.Wp.{Heap, Env}
pub use types.Logic.{Logic, sem}
pub use contract.Lifetimes.{Lfts, Shares}
pub use contract.Monad.{fact, fact_i}
pub use types.Kit.{Item, ‵, raw, ◌⊛◌, at_ret, ◌$◌, ◌∵◌, !, qed, by, move, keep, drop, use1, split, rewrite}
pub use types.Part.{agg}
pub use types.Run.{look_raw, store_raw, lit, false_lit, unit_lit, addr, of_opd, bin, and_then, no_more, stop, from, load, assigns, exec}
pub use types.Run.{first, branches, stays, leaves_loop}
pub use denote.RattleType.{RattleType}
pub use denote.Laws.{Is}
pub use denote.Builtin.{u8, u64, usize}
pub use denote.Ref.{Bor, MutBor}
pub use denote.Slice.{ShrSlice, Room, slice_val, slice_ty}
pub use Rattle.hand_proofs.proofs.World.{World, Promise, promise, Callee, Proved, world, known, proves}
pub use Rattle.hand_proofs.proofs.Meets.{Call, Tokens, Reached, Walk, walks, walks_if, ends, ends_as}
pub use Rattle.hand_proofs.proofs.Plains.{Plain, word, truth, unit, row_of, record_of, choice_of, owned, made}
pub use Rattle.hand_proofs.proofs.Params.{Param, by_value, number, lent, struct}
pub use Rattle.hand_proofs.proofs.Begin.{Typed, frame, deaths, cells}
pub use Rattle.hand_proofs.proofs.Leave.{leaves}
pub use Rattle.hand_proofs.proofs.Entries.{back, first_only, empties}
pub use Rattle.hand_proofs.proofs.Locals.{local, member, through, locals, sets, sets_last, resets, resets_last, lands, lands_last}
pub use Rattle.hand_proofs.proofs.Calls.{nil, hands_on, hands, hands_none, calls, calls_is, calls_as, calls_last}
pub use Rattle.hand_proofs.proofs.Constants.{constant}
pub use Rattle.hand_proofs.proofs.Structs.{of_fields, is_whole, is_spelled, shuts_struct, opens_struct, twice}
pub use Rattle.hand_proofs.proofs.Lent.{looks, shuts, run, lends, returns}
pub use Rattle.hand_proofs.proofs.Arrays.{spreads, gathers, cuts, joins, takes, puts}
pub use Rattle.hand_proofs.proofs.Loops.{Turn, goes_on, rounds}
