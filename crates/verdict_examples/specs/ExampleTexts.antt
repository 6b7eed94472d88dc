-- The texts of the worked cases.
use Rattle.std.specs.Prelude.{[], codes}
use Rattle.name_meaning.specs.Names.{Text}

abbrev pub text_Nat : Text
text_Nat = codes "%sig Nat = {\nnat : type.\nz : nat.\ns : nat -> nat.\n}.\n"

abbrev pub text_Nat_misspelled : Text
text_Nat_misspelled = codes "%sig Nat = {\nnat : type.\nz : nat.\ns : nat -> nta.\n}.\n"

abbrev pub text_E : Text
text_E = codes "%sig E = {\na : type.\nf : a -> a.\nc : (a -> a) -> a.\nd : a = c f.\n}.\n"

abbrev pub text_E_long : Text
text_E_long = codes "%sig E = {\na : type.\nf : a -> a.\nc : (a -> a) -> a.\nd : a = c ([x] f x).\n}.\n"

abbrev pub text_FOL : Text
text_FOL = codes "%sig FOL = {\ni : type.\no : type.\npf : o -> type.\neq : i -> i -> o.\nall : (i -> o) -> o.\n}.\n"

abbrev pub text_Magma : Text
text_Magma = codes "%sig Magma = {\n%include FOL.\nop : i -> i -> i.\n}.\n"

abbrev pub text_Monoid : Text
text_Monoid = codes "%sig Monoid = {\n%include FOL.\n%struct mag : Magma.\ne : i.\nleft : {x:i} pf (eq (mag.op e x) x).\nright : {x:i} pf (eq (mag.op x e) x).\n}.\n"

abbrev pub text_Car : Text
text_Car = codes "%sig Car = {\na : type.\nop : a -> a -> a.\n}.\n"

abbrev pub text_Two_mixed : Text
text_Two_mixed = codes "%sig Two = {\n%struct m1 : Car.\n%struct m2 : Car.\np : m1.a.\nq : m2.a.\nr : m1.a -> type.\nw : r (m1.op p q).\n}.\n"

abbrev pub text_Two : Text
text_Two = codes "%sig Two = {\n%struct m1 : Car.\n%struct m2 : Car.\np : m1.a.\nq : m2.a.\nr : m1.a -> type.\n}.\n"

abbrev pub text_Nat_plus : Text
text_Nat_plus = codes "%sig Nat = {\nnat : type.\nz : nat.\ns : nat -> nat.\nplus : nat -> nat -> nat.\n%struct m : Car = { a := nat. op := plus. }.\n}.\n"

abbrev pub text_Set : Text
text_Set = codes "%sig Set = { a : type. }.\n"

abbrev pub text_Mag : Text
text_Mag = codes "%sig Mag = { %struct u : Set. op : u.a -> u.a -> u.a. }.\n"

abbrev pub text_Ring : Text
text_Ring = codes "%sig Ring = { %struct add : Mag. %struct mul : Mag = { %struct u := Ring.add.u. }. }.\n"

abbrev pub text_Bare : Text
text_Bare = codes "%sig Bare = {\n%struct m : Magma.\n}.\n"

abbrev pub text_A : Text
text_A = codes "%sig A = {\na : type.\n}.\n"

abbrev pub text_B : Text
text_B = codes "%sig B = {\n%include A.\nb : a.\n}.\n"

abbrev pub text_C : Text
text_C = codes "%sig C = {\n%include A.\nc : a.\n}.\n"

abbrev pub text_D : Text
text_D = codes "%sig D = {\n%include B.\n%include C.\nd : a.\n}.\n"

abbrev pub text_B_two : Text
text_B_two = codes "%sig B = {\n%include A.\nb : a.\nk : type.\n}.\n"

abbrev pub text_C_two : Text
text_C_two = codes "%sig C = {\n%include A.\nc : a.\nk : type.\n}.\n"

abbrev pub text_D_two : Text
text_D_two = codes "%sig D = {\n%include B.\n%include C.\nd : k.\n}.\n"

abbrev pub text_D_one : Text
text_D_one = codes "%sig D = {\n%include B.\n%include C.\nd : B.k.\n}.\n"

abbrev pub text_Def : Text
text_Def = codes "%sig Def = {\na : type.\nc : a.\nd : a = c.\n}.\n"

abbrev pub text_T : Text
text_T = codes "%sig T = {\nb : type.\nk : b.\nl : b.\nj : b -> b.\n}.\n"

abbrev pub text_V : Text
text_V = codes "%view V : Def -> T = {\na := b.\nc := k.\nd := k.\n}.\n"

abbrev pub text_W : Text
text_W = codes "%view W : Def -> T = {\na := b.\nc := k.\nd := l.\n}.\n"

abbrev pub text_X : Text
text_X = codes "%view X : Def -> T = {\na := b.\n}.\n"

abbrev pub text_X_ill : Text
text_X_ill = codes "%view X : Def -> T = {\na := b.\nc := j.\n}.\n"

abbrev pub text_R : Text
text_R = codes "%sig R = {\na : type.\n}.\n"

abbrev pub text_P : Text
text_P = codes "%sig P = {\n%include R.\np : a.\n}.\n"

abbrev pub text_Q : Text
text_Q = codes "%sig Q = {\n%include R.\nq : a.\n}.\n"

abbrev pub text_S : Text
text_S = codes "%sig S = {\n%include P.\n%include Q.\n}.\n"

abbrev pub text_T_four : Text
text_T_four = codes "%sig T = {\nu : type.\nv : type.\nx : u.\ny : v.\n}.\n"

abbrev pub text_VR1 : Text
text_VR1 = codes "%view VR1 : R -> T = {\na := u.\n}.\n"

abbrev pub text_VR2 : Text
text_VR2 = codes "%view VR2 : R -> T = {\na := v.\n}.\n"

abbrev pub text_VP : Text
text_VP = codes "%view VP : P -> T = {\n%include VR1.\np := x.\n}.\n"

abbrev pub text_VQ : Text
text_VQ = codes "%view VQ : Q -> T = {\n%include VR2.\nq := y.\n}.\n"

abbrev pub text_V_both : Text
text_V_both = codes "%view V : S -> T = {\n%include VP.\n%include VQ.\n}.\n"

abbrev pub text_Empty : Text
text_Empty = []

abbrev pub text_Mode : Text
text_Mode = codes "%sig Z = {\n%mode a.\n"

abbrev pub text_Open : Text
text_Open = codes "%{ open\n"

abbrev pub text_A_ring : Text
text_A_ring = codes "%sig A = {\n%include B.\n}.\n"

abbrev pub text_B_ring : Text
text_B_ring = codes "%sig B = {\n%include A.\n}.\n"

abbrev pub text_C_ring : Text
text_C_ring = codes "%sig C = {\n%include A.\n}.\n"

abbrev pub text_V_identity : Text
text_V_identity = codes "%view V : A -> A = {\na := a.\n}.\n"

abbrev pub text_I_view : Text
text_I_view = codes "%sig I = {\n%include V.\n}.\n"

abbrev pub text_Twice : Text
text_Twice = codes "%sig D = {\na : type.\na : type.\n}.\n"

abbrev pub text_Object_as_family : Text
text_Object_as_family = codes "%sig L = {\na : type.\nc : a.\nd : c.\n}.\n"

abbrev pub text_Applied_atom : Text
text_Applied_atom = codes "%sig N = {\na : type.\nc : a.\nd : a = c c.\n}.\n"

abbrev pub text_Other_domain : Text
text_Other_domain = codes "%sig M = {\na : type.\nb : type.\nf : a -> a = [x:b] x.\n}.\n"

abbrev pub text_No_target : Text
text_No_target = codes "%view U : A -> A = {\na := a.\nz := a.\n}.\n"

abbrev pub text_Two_targets : Text
text_Two_targets = codes "%view U : A -> A = {\na := a.\na := a.\n}.\n"

abbrev pub text_O : Text
text_O = codes "%sig O = {\nc : type.\n}.\n"

abbrev pub text_VO : Text
text_VO = codes "%view VO : R -> O = {\na := c.\n}.\n"

abbrev pub text_Other_codomain : Text
text_Other_codomain = codes "%view V : P -> T = {\n%include VO.\np := x.\n}.\n"

abbrev pub text_Product_value : Text
text_Product_value = codes "%sig F = {\na : type.\nb : type = a -> a.\n}.\n"

abbrev pub text_Family_of_another_kind : Text
text_Family_of_another_kind = codes "%sig K = {\na : type.\nb : type.\nr : a -> type.\ns : b -> type.\nt : a -> type = s.\n}.\n"

abbrev pub text_Family_under_lambda : Text
text_Family_under_lambda = codes "%sig K = {\na : type.\nb : type.\nr : a -> type.\ns : b -> type.\nt : a -> type = [x] r.\n}.\n"

abbrev pub text_Family_applied : Text
text_Family_applied = codes "%sig K = {\na : type.\nb : type.\nr : a -> type.\ns : b -> type.\nt : a -> type = [x] r x.\n}.\n"

abbrev pub text_Mm : Text
text_Mm = codes "%sig Mm = {\n%include R.\nop : a -> a.\n}.\n"

abbrev pub text_H : Text
text_H = codes "%sig H = {\n%include R.\n%struct m : Mm.\n}.\n"

abbrev pub text_T_map : Text
text_T_map = codes "%sig T = {\nu : type.\nv : type.\nx : u.\nf : v -> v.\n}.\n"

abbrev pub text_VM : Text
text_VM = codes "%view VM : Mm -> T = {\n%include VR2.\nop := f.\n}.\n"

abbrev pub text_W_shared : Text
text_W_shared = codes "%view W : H -> T = {\n%include VR1.\n%struct m := VM.\n}.\n"

abbrev pub text_W_agreeing : Text
text_W_agreeing = codes "%view W : H -> T = {\n%include VR2.\n%struct m := VM.\n}.\n"
