-- a file that was written once, and its lists, as messages and records of it name them
use Rattle.std.specs.Prelude.{ℕ, [], ◌∷◌, codes}
use Rattle.xt_base.specs.declared.TheConstants.{NO_OBJECT}
use Rattle.xt_base.specs.declared.ids.Epoch.{Epoch}
use Rattle.xt_base.specs.declared.ids.OpId.{OpId}
use Rattle.xt_messages.specs.declared.file.Kind.TheVariants as kind
use Rattle.xt_messages.specs.declared.file.Location.{Location}
use Rattle.xt_messages.specs.declared.file.FileHead.{FileHead}
use Rattle.xt_messages.specs.declared.file.Update.{Update}
use Rattle.spec_examples.specs.Values.{node, stamp}

-- an operation of client 10
abbrev pub operation : ℕ → OpId
operation number = record { client = node 10; number = number }

abbrev pub first_list : Location
first_list = record { version = 1; kind = kind.Replicated; stripe = 131072; members = node 1 ∷ [] }

abbrev pub second_list : Location
second_list = record { version = 2; kind = kind.Replicated; stripe = 131072; members = node 2 ∷ [] }

abbrev pub small_list : Location
small_list = record { version = 2; kind = kind.Replicated; stripe = 1024; members = node 2 ∷ [] }

-- a byte at the beginning of object 0, which makes the file one byte long
abbrev pub write_of : ℕ → Update
write_of number =
    record {
      stamp = stamp 1 1 1;
      id = operation number;
      mark = record { epoch = 0; size = 1 };
      drop_from = NO_OBJECT;
      object = 0;
      body = codes "a";
    }

-- a truncation to 1,025 bytes, where an object has 1,024: the objects from 2 on go, and object 1 is cut
abbrev pub cut_short : Update
cut_short =
    record {
      stamp = stamp 1 1 2;
      id = operation 7;
      mark = record { epoch = 1; size = 1025 };
      drop_from = 2;
      object = 1;
      body = codes "b";
    }

-- a truncation to nothing: all objects go, and none gets bytes
abbrev pub cut_off : Update
cut_off =
    record {
      stamp = stamp 1 1 2;
      id = operation 7;
      mark = record { epoch = 1; size = 0 };
      drop_from = 0;
      object = NO_OBJECT;
      body = [];
    }

-- the head after that write, where this epoch is promised
abbrev pub head_after : ℕ → Epoch → FileHead
head_after number promised =
    record {
      promised = promised;
      stamp = stamp 1 1 1;
      last = operation number;
      mark = record { epoch = 0; size = 1 };
      versions = record { object = 0; version = stamp 1 1 1 } ∷ [];
      sessions = record { client = node 10; number = number; count = 1 } ∷ [];
    }
