pub mod FewParameters
