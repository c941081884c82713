-- A load has no second source.
use Rattle.std.proofs.Common.{ℕ, ◌≡◌, ◌%◌, ◌==◌, Bool, true, false, if◌then◌else◌, Option, Some, None, option_map, IfSome, refl}
use Rattle.fs_model.specs.declared.instructions.Instr.{Instr}
use Rattle.fs_model.specs.declared.instructions.Op.{Op}
use Rattle.fs_model.specs.declared.instructions.Op.TheVariants.{Jalr, Beq, Bne, Blt, Bge, Bltu, Bgeu, Lb, Lh, Lw, Lbu, Lhu}
use Rattle.fs_model.specs.declared.instructions.Effect.{Effect}
use Rattle.fs_model.specs.declared.instructions.Effect.TheVariants.{Next, Set, Jump, Load, Store}
use Rattle.fs_model.specs.Case.{CaseData}
use Rattle.fs_model.specs.Decode.{opcode, funct3, funct7, r_type, i_type, shift_type, s_type, b_type, branch_op, load_op, store_op, imm_op, shift_op, base_op, minus_op, mul_op, register_op, decode}
use Rattle.fs_model.specs.Effect.{branch_if, effect_by, effect_of}
use Rattle.fs_model.specs.Machine.{Core, fetch, decoded, instr_at}

-- where the effect is a load, the second source is none
unfoldable pub LoadHasOne : ℕ → Effect → Type 0
LoadHasOne rs2 (Load size signed at) = rs2 ≡ 0
LoadHasOne rs2 Next = Unit {0}
LoadHasOne rs2 (Set v) = Unit {0}
LoadHasOne rs2 (Jump link target) = Unit {0}
LoadHasOne rs2 (Store size at v) = Unit {0}

pub record HasOneSource (i : Instr) : Type 0 where
  pub loads : (pc a b : ℕ) → LoadHasOne i.rs2 (effect_of i pc a b)

is_load : Op → Bool
is_load Lb = true
is_load Lh = true
is_load Lw = true
is_load Lbu = true
is_load Lhu = true
is_load op = false

branch : (b : Bool) (rs2 target : ℕ) → LoadHasOne rs2 (branch_if b target)
unfolding LoadHasOne
branch true rs2 target = tt
branch false rs2 target = tt

other : (op : Op) (imm pc a b rs2 : ℕ) → is_load op ≡ false → LoadHasOne rs2 (effect_by op imm pc a b)
unfolding is_load LoadHasOne
other Lb imm pc a b rs2 h = absurd cc
other Lh imm pc a b rs2 h = absurd cc
other Lw imm pc a b rs2 h = absurd cc
other Lbu imm pc a b rs2 h = absurd cc
other Lhu imm pc a b rs2 h = absurd cc
other Beq imm pc a b rs2 h = branch _ rs2 _
other Bne imm pc a b rs2 h = branch _ rs2 _
other Blt imm pc a b rs2 h = branch _ rs2 _
other Bge imm pc a b rs2 h = branch _ rs2 _
other Bltu imm pc a b rs2 h = branch _ rs2 _
other Bgeu imm pc a b rs2 h = branch _ rs2 _
other op imm pc a b rs2 h = tt

no_second : (i : Instr) → i.rs2 ≡ 0 → HasOneSource i
unfolding LoadHasOne
no_second i h = record { loads = λ pc a b. by (effect_of i pc a b) }
  where
    by : (e : Effect) → LoadHasOne i.rs2 e
    by (Load size signed at) = h
    by Next = tt
    by (Set v) = tt
    by (Jump link target) = tt
    by (Store size at v) = tt

no_load : (i : Instr) → is_load i.op ≡ false → HasOneSource i
no_load i h = record { loads = λ pc a b. other i.op i.imm pc a b i.rs2 h }

choice : {X : Type 0} (P : X → Type 0) (b : Bool) (o p : Option X) → IfSome o P → IfSome p P → IfSome (if b then o else p) P
choice P true o p h k = h
choice P false o p h k = k

each : (f : Op → Instr) (o : Option Op) → ((op : Op) → HasOneSource (f op)) → IfSome (option_map f o) HasOneSource
each f (Some op) h = h op
each f None h = tt

NoLoad : Op → Type 0
NoLoad op = is_load op ≡ false

each_other : (f : Op → Instr) (o : Option Op) → ((op : Op) → (f op).op ≡ op) → IfSome o NoLoad → IfSome (option_map f o) HasOneSource
unfolding NoLoad
each_other f (Some op) is h = no_load (f op) (rw (is op) h)
each_other f None is h = tt

branches : (f3 : ℕ) → IfSome (branch_op f3) NoLoad
unfolding NoLoad is_load
branches f3 = search choice depth 30

stores : (f3 : ℕ) → IfSome (store_op f3) NoLoad
unfolding NoLoad is_load
stores f3 = search choice depth 30

base : (f3 : ℕ) → IfSome (base_op f3) NoLoad
unfolding NoLoad is_load
base f3 = search choice depth 30

minus : (f3 : ℕ) → IfSome (minus_op f3) NoLoad
unfolding NoLoad is_load
minus f3 = search choice depth 30

mul : (f3 : ℕ) → IfSome (mul_op f3) NoLoad
unfolding NoLoad is_load
mul f3 = search choice depth 30

registers : (f7 f3 : ℕ) → IfSome (register_op f7 f3) NoLoad
registers f7 f3 =
    choice NoLoad (f7 == 0b0000000) _ _ (base f3)
    (choice NoLoad (f7 == 0b0100000) _ _ (minus f3)
    (choice NoLoad (f7 == 0b0000001) _ _ (mul f3) tt))

HasOneSource-decode : (w : ℕ) → IfSome (decode w) HasOneSource
HasOneSource-decode w =
    let pick = choice HasOneSource in
    let i_type_has : (op : Op) → HasOneSource (i_type w op) = λ op. no_second (i_type w op) refl in
    pick (opcode w == 0b0110111) _ _ (no_second _ refl)
    (pick (opcode w == 0b0010111) _ _ (no_second _ refl)
    (pick (opcode w == 0b1101111) _ _ (no_second _ refl)
    (pick (opcode w == 0b1100111) _ _ (pick (funct3 w == 0) _ _ (i_type_has Jalr) tt)
    (pick (opcode w == 0b1100011) _ _ (each_other (b_type w) (branch_op (funct3 w)) (λ op. refl) (branches (funct3 w)))
    (pick (opcode w == 0b0000011) _ _ (each (i_type w) (load_op (funct3 w)) i_type_has)
    (pick (opcode w == 0b0100011) _ _ (each_other (s_type w) (store_op (funct3 w)) (λ op. refl) (stores (funct3 w)))
    (pick (opcode w == 0b0010011) _ _ (pick (funct3 w % 4 == 1) _ _ (each (shift_type w) (shift_op (funct7 w) (funct3 w)) (λ op. no_second _ refl)) (each (i_type w) (imm_op (funct3 w)) i_type_has))
    (pick (opcode w == 0b0110011) _ _ (each_other (r_type w) (register_op (funct7 w) (funct3 w)) (λ op. refl) (registers (funct7 w) (funct3 w)))
    (pick (opcode w == 0b0001111) _ _ (pick (funct3 w == 0) _ _ (no_second _ refl) tt) tt)))))))))

of_word : (o : Option ℕ) → IfSome (decoded o) HasOneSource
of_word (Some w) = HasOneSource-decode w
of_word None = tt

pub HasOneSource-instr_at : (c : CaseData) (s : Core) → IfSome (instr_at c s) HasOneSource
HasOneSource-instr_at c s = of_word (fetch c s)
