-- What is still to be bound makes the whole, and the outer scopes stay.
use Rattle.std.proofs.Common.{◌≡◌, map, drop}
use Rattle.meaning_scopes.specs.Scopes.{is_open, with_entries, without_scope}
use Rattle.c_scope.specs.Seen.{entry_of}
use Rattle.c_scope.proofs.scopes.Scopes.bind_all.Given as goal

abbrev pub invariant-loop-binding : goal.invariant-loop-binding
invariant-loop-binding l =
    record {
      all : with_entries l.self (map entry_of (drop l.binding-index l.bindings)) ≡ with_entries l.fn.self (map entry_of l.bindings);
      open_ : is_open l.self ≡ is_open l.fn.self;
      outer : without_scope l.self ≡ without_scope l.fn.self;
    }
